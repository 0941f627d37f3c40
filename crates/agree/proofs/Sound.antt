-- What a level keeps, whatever steps are accepted: nothing is received that was not sent, but for f messages of faulty processes; and
-- in sets, who has sent is told by its control state. From each move, over the columns' laws.
use mathlib.Core.Path.{◌≡◌, refl, sym, ap, ◌∙◌, subst⁻¹}
use mathlib.Core.Logic.{◌≢◌}
use mathlib.Core.Bool.{Bool, true, false, not, ◌&&◌, true≢false}
use Prim.Native.Nat.{ℕ, zero, suc, ◌<◌}
use native.Mathlib.Omega.{arith}
use lib.Dec.{eqb}
use borrow.Author.Tests.{not-true}
use Rattle.senders.specs.Set.{mem}
use Rattle.senders.proofs.TallyLaws.{and_both}
use Rattle.senders.proofs.SetLaws.{set_laws}
use Rattle.fault.proofs.FaultLaws.{if_keeps}
use Rattle.paper.specs.Paper.{Design, Conf, Step, newly, Kind, silence, message, kind_of, CanHear, added, Moves}
use Rattle.paper.specs.Step.{column_of}
use Rattle.paper.proofs.Cases.{yes_no, same_or}
use Rattle.paper.proofs.StepLaws.{coming_at}
use Rattle.agree.specs.Picture.{Remembers, Within, Told, Sound}
use Rattle.agree.specs.Laws.{Fresh}
use Rattle.agree.proofs.Columns.{column_laws}

-- ---- yes and no
new_is : (a b : Bool) → (b && not a) ≡ true → (b ≡ true) × (a ≡ false)
new_is a b h = let e = and_both b (not a) h in (e.0, not-true a e.1)

not_new : (a b : Bool) → (a ≡ true → b ≡ true) → (b && not a) ≡ false → a ≡ b
not_new true b k h = sym (k refl)
not_new false true k h = absurd (true≢false h)
not_new false false k h = refl

-- ---- a board that sends has not sent before
pub told_fresh : (k : ℕ) (d : Design) (σ : Conf (column_of k d).Coll) (p ℓ m : ℕ) → p < d.boards → Told k d σ m → newly d (σ.pc p) ℓ m ≡ true
    → Fresh k d.boards d.faulty ((column_of k d).own p) (σ.sent m)
told_fresh zero d σ p ℓ m h T e = T.1 p h ∙ (new_is (d.has_sent (σ.pc p) m) (d.has_sent ℓ m) e).1
told_fresh (suc k) d σ p ℓ m h T e = tt

-- ---- sets, after a move
module _ (d : Design) (K : Remembers d) (s : Step) (σ σ' : Conf ℕ) (a : Moves d (column_of 0 d) s σ σ') (m : ℕ) (hm : m < d.types) (T : Told 0 d σ m) where
  abbrev p : ℕ
  p = s.board

  abbrev new : Bool
  new = newly d (σ.pc p) (σ'.pc p) m

  stays : d.has_sent (σ.pc p) m ≡ true → d.has_sent (σ'.pc p) m ≡ true
  stays t =
      ap (λ (ℓ : ℕ). d.has_sent ℓ m) a.local.enters
      ∙ K.keeps s.rule m a.local.rule hm (ap (λ (ℓ : ℕ). d.has_sent ℓ m) (sym a.local.leaves) ∙ t)

  sent-other : (q : ℕ) → q ≢ p → mem (σ'.sent m) q ≡ mem (σ.sent m) q
  sent-other q o =
      yes_no new (λ e. ap (λ (S : ℕ). mem S q) (a.sends m hm e) ∙ set_laws.insert_other (σ.sent m) p q o) (λ e. ap (λ (S : ℕ). mem S q) (a.keeps m hm e))

  sent-own : mem (σ'.sent m) p ≡ d.has_sent (σ'.pc p) m
  sent-own =
      yes_no new
      (λ e. ap (λ (S : ℕ). mem S p) (a.sends m hm e) ∙ set_laws.insert_same (σ.sent m) p ∙ sym (new_is (d.has_sent (σ.pc p) m) (d.has_sent (σ'.pc p) m) e).0)
      (λ e. ap (λ (S : ℕ). mem S p) (a.keeps m hm e) ∙ T.1 p a.board ∙ not_new (d.has_sent (σ.pc p) m) (d.has_sent (σ'.pc p) m) stays e)

  still-own : (q : ℕ) → q < d.boards → mem (σ'.sent m) q ≡ d.has_sent (σ'.pc q) m
  still-own q hq =
      same_or (λ (x : ℕ). mem (σ'.sent m) x ≡ d.has_sent (σ'.pc x) m) p q sent-own
      (λ o. sent-other q o ∙ T.1 q hq ∙ ap (λ (ℓ : ℕ). d.has_sent ℓ m) (sym (a.others_pc q hq o)))

  sets_told : Told 0 d σ' m
  sets_told = (λ q l. sent-other q (omega (arith, a.board)) ∙ T.0 q l, still-own)

still-told : (k : ℕ) (d : Design) (K : Remembers d) (s : Step) (σ σ' : Conf (column_of k d).Coll) → Moves d (column_of k d) s σ σ' → (m : ℕ) → m < d.types → Told k d σ m → Told k d σ' m
still-told zero d K s σ σ' a m hm T = sets_told d K s σ σ' a m hm T
still-told (suc k) d K s σ σ' a m hm T = tt

-- ---- every level, after a move
module _ (k : ℕ) (d : Design) (K : Remembers d) (s : Step) (σ σ' : Conf (column_of k d).Coll) (a : Moves d (column_of k d) s σ σ') (X : Sound k d σ) where
  -- received, against what was sent in σ
  abbrev Fits : ℕ → (column_of k d).Coll → Type 0
  Fits m M = Within k d.boards d.faulty M (σ.sent m)

  pub heard-within : (q m : ℕ) → q < d.boards → m < d.types → Within k d.boards d.faulty (σ'.rcvd q m) (σ.sent m)
  heard-within q m hq hm =
      same_or (λ (x : ℕ). Fits m (σ'.rcvd x m)) s.board q (subst⁻¹ (Fits m) (a.receives m hm) (mine (kind_of s) a.hears))
      (λ o. subst⁻¹ (Fits m) (a.others_rcvd q m hq hm o) (X.within q m hq hm))
    where
      mine : (κ : Kind) → CanHear d (column_of k d) κ (σ.rcvd s.board) σ.sent → Fits m (added (column_of k d) κ (σ.rcvd s.board) m)
      mine silence H = X.within s.board m a.board hm
      mine (message t x) H =
          if_keeps (Fits m) _ (eqb t m) _ (λ z. (column_laws d.boards d.faulty k).hear x _ _ H.source (coming_at H m z) (X.within s.board m a.board hm))
          (λ z. X.within s.board m a.board hm)

  still-within : (q m : ℕ) → q < d.boards → m < d.types → Within k d.boards d.faulty (σ'.rcvd q m) (σ'.sent m)
  still-within q m hq hm =
      let W = Within k d.boards d.faulty (σ'.rcvd q m) in
      let h = heard-within q m hq hm in
      yes_no (newly d (σ.pc s.board) (σ'.pc s.board) m) (λ e. subst⁻¹ W (a.sends m hm e) ((column_laws d.boards d.faulty k).tell s.board _ _ a.board h))
      (λ e. subst⁻¹ W (a.keeps m hm e) h)

  pub still-sound : Sound k d σ'
  still-sound = record { within = still-within; told = λ m hm. still-told k d K s σ σ' a m hm (X.told m hm) }

-- ---- every level, where nothing changes but who is stopped (Q-11)
told_same : (k : ℕ) (d : Design) (σ σ' : Conf (column_of k d).Coll) (m : ℕ) → ((p : ℕ) → p < d.boards → σ'.pc p ≡ σ.pc p) → σ'.sent m ≡ σ.sent m → Told k d σ m → Told k d σ' m
told_same zero d σ σ' m e f T = (λ q l. ap (λ (S : ℕ). mem S q) f ∙ T.0 q l, λ p h. ap (λ (S : ℕ). mem S p) f ∙ T.1 p h ∙ ap (λ (ℓ : ℕ). d.has_sent ℓ m) (sym (e p h)))
told_same (suc k) d σ σ' m e f T = tt

pub sound-same : (k : ℕ) (d : Design) (σ σ' : Conf (column_of k d).Coll) → ((p : ℕ) → p < d.boards → σ'.pc p ≡ σ.pc p) → ((p m : ℕ) → p < d.boards → m < d.types → σ'.rcvd p m ≡ σ.rcvd p m)
    → ((m : ℕ) → m < d.types → σ'.sent m ≡ σ.sent m) → Sound k d σ → Sound k d σ'
sound-same k d σ σ' e r t X = record {
  within = λ p m hp hm.
      subst⁻¹ (λ (M : (column_of k d).Coll). Within k d.boards d.faulty M (σ'.sent m)) (r p m hp hm) (subst⁻¹ (Within k d.boards d.faulty (σ.rcvd p m)) (t m hm) (X.within p m hp hm));
  told = λ m hm. told_same k d σ σ' m e (t m hm) (X.told m hm);
}

-- ---- every level, at the start, where no board has sent
module _ (d : Design) where
  start-told : (k : ℕ) (σ : Conf (column_of k d).Coll) (m : ℕ) → ((p : ℕ) → p < d.boards → d.has_sent (σ.pc p) m ≡ false) → σ.sent m ≡ (column_of k d).init → Told k d σ m
  start-told zero σ m quiet e =
      let z : (q : ℕ) → mem (σ.sent m) q ≡ false = λ q. rw e (set_laws.empty q) in
      (λ q l. z q, λ p h. z p ∙ sym (quiet p h))
  start-told (suc k) σ m quiet e = tt

  pub start-sound : (k : ℕ) (σ : Conf (column_of k d).Coll) → ((p m : ℕ) → p < d.boards → m < d.types → d.has_sent (σ.pc p) m ≡ false)
      → ((p m : ℕ) → p < d.boards → m < d.types → σ.rcvd p m ≡ (column_of k d).init) → ((m : ℕ) → m < d.types → σ.sent m ≡ (column_of k d).init) → Sound k d σ
  start-sound k σ quiet r s = record {
    within = λ p m hp hm.
        subst⁻¹ (λ (M : (column_of k d).Coll). Within k d.boards d.faulty M (σ.sent m)) (r p m hp hm)
        (subst⁻¹ (Within k d.boards d.faulty (column_of k d).init) (s m hm) (column_laws d.boards d.faulty k).none);
    told = λ m hm. start-told k σ m (λ p h. quiet p m h hm) (s m hm);
  }
