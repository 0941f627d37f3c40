-- One word of a list, changed by a function: two changes can be exchanged, unless they are of one word and their functions can't be; by looking at the list.
use mathlib.Core.Path.{◌≡◌, refl, sym, ap, ◌∙◌, subst}
use mathlib.Core.Logic.{◌≢◌}
use mathlib.Core.List.{List, [], ◌∷◌}
use Prim.Native.Nat.{ℕ, zero, suc}
use native.Mathlib.Decide.{ℕ_discrete}
use lib.ListN.{get_or, set}
use lib.Seq.{get_or-set_other, set_comm}

abbrev pub change : ℕ → (ℕ → ℕ) → List ℕ → List ℕ
change i g w = set w i (g (get_or w i 0))

other-words : (i j : ℕ) (f g : ℕ → ℕ) (w : List ℕ) → i ≢ j → change i f (change j g w) ≡ change j g (change i f w)
other-words i j f g w o =
    let u : j ≢ i = λ e. o (sym e) in
    ap (λ (v : ℕ). set (change j g w) i (f v)) (get_or-set_other w j i _ 0 o) ∙ set_comm w j i _ _ u
    ∙ ap (λ (v : ℕ). set (change i f w) j (g v)) (sym (get_or-set_other w i j _ 0 u))

one_word : (i : ℕ) (f g : ℕ → ℕ) (w : List ℕ) → ((v : ℕ) → f (g v) ≡ g (f v)) → change i f (change i g w) ≡ change i g (change i f w)
one_word i f g [] h = refl
one_word zero f g (x ∷ w) h = ap (λ (v : ℕ). v ∷ w) (h x)
one_word (suc i) f g (x ∷ w) h = ap (λ (u : List ℕ). x ∷ u) (one_word i f g w h)

pub change_swap : (i j : ℕ) (f g : ℕ → ℕ) (w : List ℕ) → (i ≡ j → (v : ℕ) → f (g v) ≡ g (f v)) → change i f (change j g w) ≡ change j g (change i f w)
change_swap i j f g w h = go (ℕ_discrete i j)
  where
    go : Dec (i ≡ j) → change i f (change j g w) ≡ change j g (change i f w)
    go (yes e) = subst (λ (x : ℕ). change i f (change x g w) ≡ change x g (change i f w)) e (one_word i f g w (h e))
    go (no o) = other-words i j f g w o

-- what the function keeps of a word, the change keeps of every word; a place past the end is no exception
pub change_keeps : (P : ℕ → Type 0) (i j : ℕ) (g : ℕ → ℕ) (w : List ℕ) → (i ≡ j → (v : ℕ) → P v → P (g v)) → P (get_or w j 0) → P (get_or (change i g w) j 0)
change_keeps P i j g [] h p = p
change_keeps P zero zero g (x ∷ w) h p = h refl x p
change_keeps P zero (suc j) g (x ∷ w) h p = p
change_keeps P (suc i) zero g (x ∷ w) h p = p
change_keeps P (suc i) (suc j) g (x ∷ w) h p = change_keeps P i j g w (λ e. h (ap suc e)) p
