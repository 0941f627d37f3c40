-- Q-13, from what each accepted step adds (proofs/Steps.antt): a run's words tell how many messages were received and sent; of each type each board has at most one from each process, and
-- each type has at most one sender for each board, so that sums of them are bounded; and a translation has the same steps but for their sources.
use mathlib.Core.Path.{◌≡◌, refl, sym, ap, ◌∙◌}
use mathlib.Core.Bool.{Bool, false, not, and-false}
use mathlib.Core.List.{List, map}
use Prim.Native.Nat.{ℕ, zero, suc, ◌+◌, ◌*◌, ◌≤◌, ◌<◌}
use native.Mathlib.Nat.{mul_assoc, mul_comm}
use native.Mathlib.Omega.{arith}
use lib.Dec.{eqb}
use borrow.Author.Tests.{ne_eqb}
use Rattle.senders.proofs.TallyLaws.{count-at_most}
use Rattle.paper.specs.Paper.{Design, Step, no_message, silent}
use Rattle.paper.specs.Words.{state}
use Rattle.paper.specs.Form.{wide}
use Rattle.paper.specs.Step.{column_of, rcvd_in, sent_in, step_fault, stepped}
use Rattle.paper.specs.Run.{machine_of, run}
use Rattle.paper.proofs.Cases.{yes_no}
use Rattle.paper.proofs.WordLaws.{length-start}
use Rattle.paper.proofs.MachineLaws.{run-keeps}
use Rattle.agree.specs.Translation.{tag_of, with_source, tag_by, tagged, low_all}
use Rattle.agree.specs.Picture.{Pictured}
use Rattle.agree.proofs.Columns.{picture_laws, tag_only}
use Rattle.agree.proofs.Agree.{tagged-silent, tagged-message}
use Rattle.agree.proofs.Runs.{none-received, none-sent, sound-start, start-pictured, forward_run, backward_run}
use Rattle.words.specs.Words.{from_correct}
use Rattle.receipts.specs.Receipts.{receives, sends, tally, accepted_of, receipts_in, sends_in, sum_below, received_by, sent_by, Counts, start_of, ReceiptLaws}
use Rattle.receipts.proofs.Sums.{sum_most, sum-none, tally-map, all-accepted, run-counts}
use Rattle.receipts.proofs.Steps.{card-none, correct-none, card_most, senders, Kept, receives-one, sends-one-more, still_kept}

module _ (d : Design) (starts : List ℕ) (N : Counts d starts) where
  abbrev begin : ℕ → List ℕ
  begin k = start_of k d starts

  module _ (k : ℕ) where
    -- ---- at the start
    none_got : received_by k d (begin k) ≡ 0
    none_got = sum-none d.boards _ (λ p hp. sum-none d.types _ (λ m hm. ap (column_of k d).card (none-received d starts N.long k p m) ∙ card-none k d.boards d.faulty))

    none_out : (m : ℕ) → senders k d (begin k) m ≡ 0
    none_out m = ap (from_correct k d.boards d.faulty) (none-sent d starts N.long k m) ∙ correct-none k d.boards d.faulty

    kept-start : Kept k d (begin k)
    kept-start = record {
      long = length-start d.boards d.types (wide k) starts N.long;
      sound = sound-start d starts N.long N.fresh k;
      few = λ m hm. omega (arith, none_out m);
    }

    -- ---- a run
    keeps : (w : List ℕ) (s : Step) → Kept k d w → step_fault k d w s ≡ 0 → Kept k d (stepped k d w s)
    keeps = still_kept k d N.remembers

    module _ (ss : List Step) where
      abbrev left : List ℕ
      left = (run k d (begin k) ss).left

      pub received : received_by k d left ≡ receipts_in k d (begin k) ss
      received = omega (arith, run-counts (machine_of k d) (Kept k d) keeps receives (received_by k d) (receives-one k d N.remembers) (begin k) ss kept-start, none_got)

      pub sent : sent_by k d left ≡ sends_in k d (begin k) ss
      sent = omega (arith, run-counts (machine_of k d) (Kept k d) keeps (sends d) (sent_by k d) (λ w s X h. sends-one-more k d N.remembers w s X h N.one_new) (begin k) ss kept-start, sum-none d.types (senders k d (begin k)) (λ m hm. none_out m))

      -- ---- bounds
      kept-left : Kept k d left
      kept-left = run-keeps (machine_of k d) (Kept k d) keeps (begin k) ss kept-start

      few-senders : (m : ℕ) → m < d.types → senders k d left m ≤ d.boards
      few-senders m hm = omega (arith, kept-left.few m hm, count-at_most d.boards (λ p. d.has_sent (state left p) m))

      few_got : (p m : ℕ) → p < d.boards → m < d.types → (column_of k d).card (rcvd_in k d left p m) ≤ d.boards + d.faulty
      few_got p m hp hm = card_most k d.boards d.faulty _ (sent_in k d left m) (kept-left.sound.within p m hp hm) (few-senders m hm)

      pub few_receipts : receipts_in k d (begin k) ss ≤ d.boards * d.types * (d.boards + d.faulty)
      few_receipts =
          omega (
            arith,
            received,
            sum_most d.boards (d.types * (d.boards + d.faulty)) (λ p. sum_below d.types (λ m. (column_of k d).card (rcvd_in k d left p m)))
                (λ p hp. sum_most d.types (d.boards + d.faulty) _ (λ m hm. few_got p m hp hm)),
            mul_assoc d.boards d.types (d.boards + d.faulty),
          )

      pub few_sends : sends_in k d (begin k) ss ≤ d.boards * d.types
      few_sends = omega (arith, sent, sum_most d.types d.boards (senders k d left) few-senders, mul_comm d.types d.boards)

-- ---- translations
tag_small : (j C q : ℕ) → tag_of j C q < 2
tag_small zero C q = (picture_laws C 0 0).below q
tag_small (suc j) C q = omega (arith, tag_only j C q)

-- so that a step with a tag has a message
tag_loud : (s : Step) (q : ℕ) → q < 2 → silent (with_source s q) ≡ false
tag_loud s q h = rw (ne_eqb q no_message (omega arith)) (and-false (eqb s.type no_message))

module _ (j : ℕ) (d : Design) where
  same-receives : (s : Step) → receives (tagged j d s) ≡ receives s
  same-receives s =
      yes_no (silent s) (λ e. ap receives (tagged-silent j d s e))
      (λ e. ap receives (tagged-message j d s e) ∙ ap not (tag_loud s (tag_of j d.boards s.source) (tag_small j d.boards s.source) ∙ sym e))

  same-sends : (s : Step) → sends d (tagged j d s) ≡ sends d s
  unfolding tag_by
  same-sends s = refl

  -- two schedules that run, one of which is the other with its tags
  module _ (w v : List ℕ) (ss ts : List Step) (t : map (tagged j d) ss ≡ ts) (h : (run j d w ss).refusal ≡ 0) (h' : (run (suc j) d v ts).refusal ≡ 0) where
    same-tally : (P : Step → Bool) → ((s : Step) → P (tagged j d s) ≡ P s) → tally P (accepted_of (suc j) d v ts) ≡ tally P (accepted_of j d w ss)
    same-tally P e = ap (tally P) (all-accepted (machine_of (suc j) d) v ts h' ∙ sym t) ∙ tally-map P (tagged j d) e ss ∙ ap (tally P) (sym (all-accepted (machine_of j d) w ss h))

    same_numbers : (receipts_in (suc j) d v ts ≡ receipts_in j d w ss) × (sends_in (suc j) d v ts ≡ sends_in j d w ss)
    same_numbers = (same-tally receives same-receives, same-tally (sends d) same-sends)

module _ (j : ℕ) (d : Design) (starts : List ℕ) (N : Counts d starts) (ss : List Step) where
  abbrev w : List ℕ
  w = start_of j d starts

  abbrev v : List ℕ
  v = start_of (suc j) d starts

  X : Pictured j d (start_of j d starts) (start_of (suc j) d starts)
  X = start-pictured d starts N.long N.fresh j

  up : (run j d w ss).refusal ≡ 0 → (receipts_in (suc j) d v (map (tagged j d) ss) ≡ receipts_in j d w ss) × (sends_in (suc j) d v (map (tagged j d) ss) ≡ sends_in j d w ss)
  up h = same_numbers j d w v ss _ refl h (forward_run j d N.remembers w v ss X h).accepted

  down : (run (suc j) d v ss).refusal ≡ 0 → (receipts_in j d w (low_all j d w ss) ≡ receipts_in (suc j) d v ss) × (sends_in j d w (low_all j d w ss) ≡ sends_in (suc j) d v ss)
  down h =
      let B = backward_run j d N.remembers w v ss X h in
      let S = same_numbers j d w v (low_all j d w ss) ss B.trip B.accepted h in
      (sym S.0, sym S.1)

-- ---- all of it
pub receipts_hold : ReceiptLaws
receipts_hold = record {
  received = λ k d starts N ss. received d starts N k ss;
  sent = λ k d starts N ss. sent d starts N k ss;
  few_receipts = λ k d starts N ss. few_receipts d starts N k ss;
  few_sends = λ k d starts N ss. few_sends d starts N k ss;
  up = λ j d starts N ss. up j d starts N ss;
  down = λ j d starts N ss. down j d starts N ss;
}
