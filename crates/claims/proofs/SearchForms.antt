-- What reaches an accepting state in one form does so in all: a translated schedule runs (Agreement), as many steps later the words are pictured still,
-- and a picture has the same states. Bundles that are translated end in pictured words (Demand3).
use mathlib.Core.Path.{◌≡◌, refl, sym, ap, ◌∙◌, subst, subst⁻¹}
use mathlib.Core.List.{List, map}
use Prim.Native.Nat.{ℕ, zero, suc, ◌≤◌}
use native.Mathlib.Omega.{arith}
use lib.ListN.{length, length-map}
use lib.Seq.{take_all}
use Rattle.bundle.specs.Bundle.{table_in_use}
use Rattle.bundle.proofs.BundleLaws.{read_by}
use Rattle.paper.specs.Paper.{Design, Step}
use Rattle.paper.specs.Run.{run, after}
use Rattle.agree.specs.Translation.{tagged, low_all}
use Rattle.agree.specs.Picture.{Remembers, Pictured}
use Rattle.agree.proofs.Runs.{forward_run, backward_run}
use Rattle.engine.specs.Design.{design_in}
use Rattle.engine.specs.Entry.{ran_of}
use Rattle.translate.specs.Written.{translation_with}
use Rattle.translate.specs.Entry.{translation_of}
use Rattle.translate.proofs.ReadLaws.{kept}
use Rattle.translate.proofs.LoopLaws.{low-long}
use Rattle.accepting.specs.States.{accepts}
use Rattle.search.proofs.None.{some_same}
use Rattle.search.specs.Found.{Reaches}
use Rattle.claims.specs.Demand1.{Runs}
use Rattle.claims.specs.Search.{ReachesFrom, ReachedIn}
use Rattle.claims.proofs.Demand3.{d, form, same-design, level-at, left-pictured}

-- ---- neighbours
module _ (j : ℕ) (d : Design) (K : Remembers d) (w v : List ℕ) (X : Pictured j d w v) where
  -- the words after all steps
  whole : (k : ℕ) (w : List ℕ) (n : ℕ) (ss : List Step) → length ss ≡ n → after k d w ss n ≡ (run k d w ss).left
  whole k w n ss e = ap (λ (x : List Step). (run k d w x).left) (take_all n ss (omega arith))

  accepts-same : (u x : List ℕ) → Pictured j d u x → accepts d x ≡ accepts d u
  unfolding accepts
  accepts-same u x Y = some_same d.boards _ _ (λ p h. ap d.accepting (Y.states p h))

  there : (ss : List Step) → Reaches j d w ss → Reaches (suc j) d v (map (tagged j d) ss)
  there ss R =
      let T = forward_run j d K w v ss X R.runs in
      record {
        runs = T.accepted;
        accepting = ap (accepts d) (sym (whole (suc j) v (length ss) (map (tagged j d) ss) (length-map ss (tagged j d)))) ∙ accepts-same _ _ (T.pictured (length ss)) ∙ ap (accepts d) (whole j w (length ss) ss refl) ∙ R.accepting;
      }

  back : (ss : List Step) → Reaches (suc j) d v ss → Reaches j d w (low_all j d w ss)
  back ss R =
      let T = backward_run j d K w v ss X R.runs in
      record {
        runs = T.accepted;
        accepting = ap (accepts d) (sym (whole j w (length ss) (low_all j d w ss) (low-long j d w ss))) ∙ sym (accepts-same _ _ (T.pictured (length ss))) ∙ ap (accepts d) (whole (suc j) v (length ss) ss refl) ∙ R.accepting;
      }

-- ---- a bundle that runs, in all forms
module _ (b standing : List ℕ) (S : Runs b standing) where
  abbrev D : Design
  D = d b standing S

  abbrev ends : ℕ → List ℕ
  ends k = (ran_of (form b standing S k) standing).left

  -- n steps reach an accepting state, at level k
  record At (n k : ℕ) : Type 0 where
    steps : List Step
    long : length steps ≡ n
    reaches : Reaches k D (ends k) steps

  remembers : Remembers D
  remembers = kept (table_in_use b standing) b (read_by b standing refl S.read refl)

  module _ (n : ℕ) where
    up : (j : ℕ) → j ≤ 1 → At n j → At n (suc j)
    up j l A = record { steps = map (tagged j D) A.steps; long = length-map A.steps (tagged j D) ∙ A.long; reaches = there j D remembers _ _ (left-pictured b standing S j l) A.steps A.reaches }

    down : (j : ℕ) → j ≤ 1 → At n (suc j) → At n j
    down j l A = record { steps = low_all j D (ends j) A.steps; long = low-long j D (ends j) A.steps ∙ A.long; reaches = back j D remembers _ _ (left-pictured b standing S j l) A.steps A.reaches }

    -- by way of message form
    to_sets : (k : ℕ) → k ≤ 2 → At n k → At n 0
    to_sets zero l A = A
    to_sets (suc k) l A = to_sets k (omega arith) (down k (omega arith) A)

    from_sets : (k : ℕ) → k ≤ 2 → At n 0 → At n k
    from_sets zero l A = A
    from_sets (suc k) l A = up k (omega arith) (from_sets k (omega arith) A)

  -- as the translated bundle has it, and as its form has it
  module _ (k : ℕ) (l : k ≤ 2) (ss : List Step) where
    abbrev E : Design
    E = design_in (form b standing S k) standing

    to_level : ReachesFrom (translation_of b standing k) standing ss → Reaches k D (ends k) ss
    unfolding translation_with
    to_level R = subst (λ (e : Design). Reaches k e (ends k) ss) (same-design b standing S k) (subst (λ (x : ℕ). Reaches x E (ends k) ss) (level-at b standing S k l) R)

    from_level : Reaches k D (ends k) ss → ReachesFrom (translation_of b standing k) standing ss
    unfolding translation_with
    from_level R = subst⁻¹ (λ (x : ℕ). Reaches x E (ends k) ss) (level-at b standing S k l) (subst⁻¹ (λ (e : Design). Reaches k e (ends k) ss) (same-design b standing S k) R)

  pub in_each_form : (j k : ℕ) → j ≤ 2 → k ≤ 2 → (ss : List Step) → ReachesFrom (translation_of b standing j) standing ss → ReachedIn (translation_of b standing k) standing (length ss)
  in_each_form j k hj hk ss R =
      let A = from_sets (length ss) k hk (to_sets (length ss) j hj (record { steps = ss; long = refl; reaches = to_level j hj ss R })) in
      record { steps = A.steps; long = A.long; reaches = from_level k hk A.steps A.reaches }
