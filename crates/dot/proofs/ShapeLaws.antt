-- The place of a number in its group, from one number to the next: the remainder goes on by 1, whatever came before.
use Prim.Native.Nat.{ℕ, ◌+◌, ◌%◌, ◌≤◌, ◌<◌}
use mathlib.Core.Path.{◌≡◌, sym, ◌∙◌}
use native.Mathlib.Nat.{zero-mod, mod-lt, mod-add-mod}

pub place-first : (g : ℕ) → 0 ≡ 0 % g
place-first g = sym (zero-mod g)

pub place-next : {i r : ℕ} (j g : ℕ) → i ≡ j % g → r ≡ (i + 1) % g → r ≡ (j + 1) % g
place-next j g e h = h ∙ rw e (mod-add-mod j g 1)

pub place-below : {i g : ℕ} (j : ℕ) → i ≡ j % g → 1 ≤ g → i < g
place-below {g = g} j e h = rw e (mod-lt j h)
