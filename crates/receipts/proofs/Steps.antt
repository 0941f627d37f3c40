-- What an accepted step adds to the numbers that the words tell: a receipt one message, which is in transit and so new, to one collection of its board; a move one sender to what is sent of
-- each type that is new, who was not among them; a stop nothing. And what every run keeps: no more have sent a type than there are boards in a state that has sent it.
use mathlib.Core.Path.{◌≡◌, refl, sym, ap, ap₂, ◌∙◌}
use mathlib.Core.Logic.{◌≢◌}
use mathlib.Core.Bool.{Bool, true, false, not, ◌&&◌, and-true, and-false}
use mathlib.Core.List.{List}
use Prim.Native.Nat.{ℕ, zero, suc, ◌+◌, ◌≤◌, ◌<◌}
use native.Mathlib.Omega.{arith}
use lib.Dec.{eqb}
use lib.ListN.{length}
use borrow.Author.Tests.{eq-eqb, ne_eqb, not-true}
use Rattle.senders.specs.Tally.{digit, count}
use Rattle.senders.proofs.TallyLaws.{and_both, count-at_most, count_none, count_same, count-le, count-one-more}
use Rattle.senders.proofs.SetLaws.{set_laws, count_laws}
use Rattle.paper.specs.Paper.{Design, Step, column, newly, stop_rule, is_stop, Moves, Stops, Steps, by_rule, by_stop}
use Rattle.paper.specs.Words.{size, state}
use Rattle.paper.specs.Form.{wide}
use Rattle.paper.specs.Step.{column_of, sent_in, view, count_of, step_fault, stepped}
use Rattle.paper.proofs.Cases.{yes_no, same_or}
use Rattle.paper.proofs.StepLaws.{Arrives, accepted, arrives_by, rcvd_heard, count_heard, ruled, loud_rule, length-stepped, step-related}
use Rattle.agree.specs.Picture.{Remembers, Within, Sound}
use Rattle.agree.specs.Laws.{Fresh}
use Rattle.agree.proofs.Sound.{told_fresh, still-sound, sound-same}
use Rattle.words.specs.Words.{from_correct}
use Rattle.receipts.specs.Receipts.{receives, sends, sum_below, received_by, sent_by}
use Rattle.receipts.proofs.Sums.{sum-grows, count-is-some, count-hit}

-- ---- the columns
pub card-none : (k C f : ℕ) → (column k C f).card (column k C f).init ≡ 0
card-none zero C f = count_none (C + f) _ (λ i l. set_laws.empty i)
card-none (suc zero) C f = omega arith
card-none (suc (suc k)) C f = refl

pub correct-none : (k C f : ℕ) → from_correct k C f (column k C f).init ≡ 0
unfolding from_correct
correct-none zero C f = (count_laws C f).empty_correct
correct-none (suc zero) C f = refl
correct-none (suc (suc k)) C f = refl

-- a board that has not sent is one sender more
correct-add : (k C f p : ℕ) (S : (column k C f).Coll) → p < C → Fresh k C f ((column k C f).own p) S → from_correct k C f ((column k C f).add ((column k C f).own p) S) ≡ suc (from_correct k C f S)
unfolding from_correct
correct-add zero C f p S h n = (count_laws C f).correct_one_more S p h n
correct-add (suc zero) C f p S h n = refl
correct-add (suc (suc k)) C f p S h n = refl

-- what is received is from those who have sent and from those who are faulty
pub card_most : (k C f : ℕ) (M S : (column k C f).Coll) → Within k C f M S → from_correct k C f S ≤ C → (column k C f).card M ≤ C + f
unfolding from_correct
card_most zero C f M S W h = count-at_most (C + f) _
card_most (suc zero) C f M S W h = omega (arith, W.0, W.1, h)
card_most (suc (suc k)) C f M S W h = omega (arith, W, h)

-- ---- one more where a test says so
one_more_lem : {x y : ℕ} (b : Bool) → (b ≡ true → y ≡ suc x) → (b ≡ false → y ≡ x) → y ≡ x + digit b
one_more_lem true f g = omega (arith, f refl)
one_more_lem false f g = omega (arith, g refl)

-- ---- what a run keeps
abbrev pub senders : (k : ℕ) (d : Design) → List ℕ → ℕ → ℕ
senders k d w m = from_correct k d.boards d.faulty (sent_in k d w m)

pub record Kept (k : ℕ) (d : Design) (w : List ℕ) : Type 0 where
  pub long : length w ≡ size d.boards d.types (wide k)
  pub sound : Sound k d (view k d w)
  pub few : (m : ℕ) → m < d.types → senders k d w m ≤ count d.boards (λ p. d.has_sent (state w p) m)

-- ---- a step
module _ (k : ℕ) (d : Design) (K : Remembers d) (w : List ℕ) (s : Step) (X : Kept k d w) (h : step_fault k d w s ≡ 0) where
  abbrev w' : List ℕ
  w' = stepped k d w s

  abbrev Goes : Type 0
  Goes = Steps d (column_of k d) s (view k d w) (view k d w')

  goes : Goes
  goes = step-related k d w s X.long h

  abbrev new : ℕ → Bool
  new m = newly d (d.from s.rule) (d.to s.rule) m

  -- by a rule
  module _ (a : Moves d (column_of k d) s (view k d w) (view k d w')) where
    arrives : Arrives k d w s
    arrives = arrives_by k d w s a.board a.local.rule a.local.leaves a.hears

    mine : (m : ℕ) → m < d.types → count_of k d w' s.board m ≡ count_of k d w s.board m + digit (receives s && eqb s.type m)
    mine m hm = ap (column_of k d).card (a.receives m hm ∙ sym (rcvd_heard k d w s X.long arrives m hm)) ∙ count_heard k d w s X.long arrives m hm

    new_is : (m : ℕ) → newly d (state w s.board) (state w' s.board) m ≡ new m
    new_is m = ap₂ (λ (x y : ℕ). newly d x y m) a.local.leaves a.local.enters

    sends-one : (m : ℕ) → m < d.types → newly d (state w s.board) (state w' s.board) m ≡ true → senders k d w' m ≡ suc (senders k d w m)
    sends-one m hm e =
        ap (from_correct k d.boards d.faulty) (a.sends m hm e)
        ∙ correct-add k d.boards d.faulty s.board _ a.board (told_fresh k d (view k d w) s.board (state w' s.board) m a.board (X.sound.told m hm) e)

    sends_none : (m : ℕ) → m < d.types → newly d (state w s.board) (state w' s.board) m ≡ false → senders k d w' m ≡ senders k d w m
    sends_none m hm e = ap (from_correct k d.boards d.faulty) (a.keeps m hm e)

    other : (m q : ℕ) → q < d.boards → q ≢ s.board → d.has_sent (state w' q) m ≡ d.has_sent (state w q) m
    other m q hq o = ap (λ (ℓ : ℕ). d.has_sent ℓ m) (a.others_pc q hq o)

    -- who has sent has sent
    stays : (m q : ℕ) → m < d.types → q < d.boards → d.has_sent (state w q) m ≡ true → d.has_sent (state w' q) m ≡ true
    stays m q hm hq =
        same_or (λ (x : ℕ). d.has_sent (state w x) m ≡ true → d.has_sent (state w' x) m ≡ true) s.board q
        (λ t. ap (λ (ℓ : ℕ). d.has_sent ℓ m) a.local.enters ∙ K.keeps s.rule m a.local.rule hm (ap (λ (ℓ : ℕ). d.has_sent ℓ m) (sym a.local.leaves) ∙ t))
        (λ o t. other m q hq o ∙ t)

    one_sender : (m : ℕ) → newly d (state w s.board) (state w' s.board) m ≡ true
        → count d.boards (λ p. d.has_sent (state w' p) m) ≡ suc (count d.boards (λ p. d.has_sent (state w p) m))
    one_sender m e = let b = and_both _ _ e in count-one-more d.boards s.board _ _ a.board (not-true _ b.1) b.0 (other m)

    few-moved : (m : ℕ) → m < d.types → senders k d w' m ≤ count d.boards (λ p. d.has_sent (state w' p) m)
    few-moved m hm =
        yes_no (newly d (state w s.board) (state w' s.board) m)
        (λ e. omega (arith, sends-one m hm e, X.few m hm, one_sender m e))
        (λ e. omega (arith, sends_none m hm e, X.few m hm, count-le d.boards (λ p. d.has_sent (state w p) m) (λ p. d.has_sent (state w' p) m) (λ q. stays m q hm)))

  -- ---- what is received
  got : Goes → (q m : ℕ) → q < d.boards → m < d.types → count_of k d w' q m ≡ count_of k d w q m + digit ((receives s && eqb s.board q) && eqb s.type m)
  got (by_rule n a) q m hq hm =
      same_or (λ (x : ℕ). count_of k d w' x m ≡ count_of k d w x m + digit ((receives s && eqb s.board x) && eqb s.type m)) s.board q
      (rw (eq-eqb s.board s.board refl, and-true) (mine a m hm))
      (λ o. rw (ne_eqb s.board q (λ e. o (sym e)), and-false) (omega (arith, ap (column_of k d).card (a.others_rcvd q m hq hm o))))
  got (by_stop a) q m hq hm = rw a.alone (omega (arith, ap (column_of k d).card (a.rcvd q m hq hm)))

  on-board : Goes → s.board < d.boards
  on-board (by_rule n a) = a.board
  on-board (by_stop a) = a.board

  of_type_lem : receives s ≡ true → s.type < d.types
  of_type_lem e =
      let z = not-true _ e in
      ((accepted k d w s (ruled k d w s (loud_rule k d w s z h) h).1).arrives.named z).type

  pub receives-one : received_by k d w' ≡ received_by k d w + digit (receives s)
  receives-one =
      sum-grows d.boards (λ q. receives s && eqb s.board q) _ _ (λ q hq.
      sum-grows d.types (λ m. (receives s && eqb s.board q) && eqb s.type m) _ _ (λ m hm. got goes q m hq hm)
      ∙ ap (λ (x : ℕ). sum_below d.types (count_of k d w q) + x) (count-hit d.types s.type (receives s && eqb s.board q) (λ e. of_type_lem (and_both _ _ e).0)))
      ∙ ap (λ (x : ℕ). received_by k d w + x) (count-hit d.boards s.board (receives s) (λ e. on-board goes))

  -- ---- what is sent
  stop_is : Stops d (column_of k d) s (view k d w) (view k d w') → is_stop s ≡ true
  stop_is a = eq-eqb s.rule stop_rule a.rule

  out : Goes → (m : ℕ) → m < d.types → senders k d w' m ≡ senders k d w m + digit (not (is_stop s) && new m)
  out (by_rule n a) m hm = rw n (one_more_lem (new m) (λ e. sends-one a m hm (new_is a m ∙ e)) (λ e. sends_none a m hm (new_is a m ∙ e)))
  out (by_stop a) m hm = rw (stop_is a) (omega (arith, ap (from_correct k d.boards d.faulty) (a.sent m hm)))

  -- a rule sends one new type at most
  module _ (one : (r : ℕ) → r < d.rules → count d.types (newly d (d.from r) (d.to r)) ≤ 1) where
    types-new : Goes → count d.types (λ m. not (is_stop s) && new m) ≡ digit (sends d s)
    types-new (by_rule n a) = rw n (count-is-some d.types new (one s.rule a.local.rule))
    types-new (by_stop a) = rw (stop_is a) (count_none d.types _ (λ m hm. refl))

    pub sends-one-more : sent_by k d w' ≡ sent_by k d w + digit (sends d s)
    sends-one-more = sum-grows d.types (λ m. not (is_stop s) && new m) _ _ (out goes) ∙ ap (λ (x : ℕ). sent_by k d w + x) (types-new goes)

  -- ---- what is kept
  still_sounds : Goes → Sound k d (view k d w')
  still_sounds (by_rule n a) = still-sound k d K s (view k d w) (view k d w') a X.sound
  still_sounds (by_stop a) = sound-same k d (view k d w) (view k d w') a.pc a.rcvd a.sent X.sound

  still-few : Goes → (m : ℕ) → m < d.types → senders k d w' m ≤ count d.boards (λ p. d.has_sent (state w' p) m)
  still-few (by_rule n a) m hm = few-moved a m hm
  still-few (by_stop a) m hm =
      omega (
        arith,
        X.few m hm,
        ap (from_correct k d.boards d.faulty) (a.sent m hm),
        count_same d.boards (λ p. d.has_sent (state w' p) m) (λ p. d.has_sent (state w p) m) (λ p hp. ap (λ (ℓ : ℕ). d.has_sent ℓ m) (a.pc p hp)),
      )

  pub still_kept : Kept k d w'
  still_kept = record { long = length-stepped k d w s ∙ X.long; sound = still_sounds goes; few = still-few goes }
