-- What `replay` answers is one of five things; where it goes on to the steps, the bundle that it makes is the given one with the log's steps, so that the
-- demands hold of it as of every bundle.
use mathlib.Core.Path.{◌≡◌, refl, sym, ap, ap₂, ◌∙◌, subst}
use mathlib.Core.Bool.{Bool, true, false, not}
use mathlib.Core.List.{List, [], ◌∷◌, ◌++◌}
use Prim.Native.Nat.{ℕ, ◌+◌, ◌*◌, ◌/◌, ◌%◌, ◌≤◌, ◌<◌}
use native.Mathlib.Decide.{ℕ_discrete}
use native.Mathlib.Omega.{arith}
use lib.ListN.{length, take, drop, length-drop, take-append-drop}
use lib.Seq.{get_or-drop, drop-drop}
use borrow.Author.Tests.{eq-eqb, ne_eqb, ltb-false, le-ltb}
use Rattle.fault.specs.Bytes.{byte_at, trailer_of, two_bytes, step_bytes, most_steps}
use Rattle.fault.specs.Fault.{verdict, fine, refused, nothing_done, ◌if◌else◌}
use Rattle.fault.specs.Tests.{◌below◌}
use Rattle.fault.specs.Fault.{Verdict}
use Rattle.fault.specs.declared.Answer.{Answer}
use Rattle.fault.proofs.FaultLaws.{if_yes, if_no}
use Rattle.fault.proofs.TestLaws.{or-none}
use Rattle.bundle.specs.Bundle.{step_distance, start_distance, form_of, correct_of, steps_at, steps_of, table_in_use}
use Rattle.bundle.specs.Refusals.{read_fault}
use Rattle.bundle.specs.Facts.{Read}
use Rattle.bundle.proofs.BundleLaws.{read_by, read-within}
use Rattle.paper.specs.Paper.{Step}
use Rattle.words.specs.Words.{room_of}
use Rattle.words.specs.Facts.{most_words}
use Rattle.schedule.specs.Records.{bytes_of}
use Rattle.schedule.proofs.RecordLaws.{length-bytes}
use Rattle.service_log.specs.Line.{log_of, AllSayable}
use Rattle.service_log.specs.Lines.{log_fault, log_steps, Sound}
use Rattle.service_log.proofs.LinesLaws.{steps-few}
use Rattle.service_log.proofs.LogExact.{exact, Judgement, right, wrong_at, long_at, judgement}
use Rattle.engine.specs.Design.{sizes_in}
use Rattle.engine.specs.Entry.{schedule_of, ran_of, ran_answer, run_answer, run_words}
use Rattle.engine.proofs.BoundLaws.{run-answer-within, schedule-few}
use Rattle.engine.proofs.RecastLaws.{Recast, with-steps, recast_long, recast_read, recast_sizes, drop_trailer, take_front, new_distance, new_starts, same_n, same_t, same_f, new_form, same_table, same_start_bytes, new_steps}
use Rattle.translate.specs.Entry.{translation_of, no_other, usual}
use Rattle.translate.proofs.WriteLaws.{bytes-own}
use Rattle.replay.specs.Made.{raised}
use Rattle.replay.specs.Made as replay
use Rattle.replay.specs.Entry.{not_empty, made_of, no_room, replay_fault, replay_answer, replay_bytes, replay_words}
use Rattle.replay.proofs.MadeLaws.{made_recast}
use Rattle.replay.proofs.EntryLaws.{no_steps, message-form, made-long, fault-reading, fault-steps, fault-lines, fault-room, fault-none, refuses, runs}
use Rattle.claims.specs.Demand1.{Runs, OfStep, room_in}
use Rattle.claims.specs.Demand3.{Refuses, SideBySide}
use Rattle.claims.specs.Replay.{Before, Stepped, all, up_to, Made, emptied, Back, refusal_at, Replay}
use Rattle.claims.proofs.Demand1.{demand1, ran-number, run-read}
use Rattle.claims.proofs.Demand2.{demand2}
use Rattle.claims.proofs.Demand3.{demand3}

number_of : {v w : Verdict} → v ≡ w → v.number ≡ w.number
number_of e = ap (λ (v : Verdict). v.number) e

refusal_of : {a c : Answer} → a ≡ c → a.refusal ≡ c.refusal
refusal_of e = ap (λ (a : Answer). a.refusal) e

-- ---- one of five things
data Outcome (b standing log : List ℕ) (bytes words : ℕ) (v : Verdict) : Type 0 where
  unread : ((read_fault b standing).number ≡ 0 → ⊥) → v ≡ read_fault b standing → Outcome b standing log bytes words v
  stepped : v ≡ refused 52 → Outcome b standing log bytes words v
  lined : ((log_fault log).number ≡ 0 → ⊥) → v ≡ log_fault log → Outcome b standing log bytes words v
  short : v ≡ refused 30 → Outcome b standing log bytes words v
  goes : (read_fault b standing).number ≡ 0 → not_empty b ≡ false → (log_fault log).number ≡ 0 → no_room b standing log bytes words ≡ false → v ≡ fine → Outcome b standing log bytes words v

outcome : (b standing log : List ℕ) (bytes words : ℕ) → Outcome b standing log bytes words (replay_fault b standing log bytes words)
outcome b standing log bytes words = read (ℕ_discrete (read_fault b standing).number 0)
  where
    room : (read_fault b standing).number ≡ 0 → not_empty b ≡ false → (log_fault log).number ≡ 0 → (q : Bool) → no_room b standing log bytes words ≡ q → Outcome b standing log bytes words (replay_fault b standing log bytes words)
    room r h z true e = short (fault-room b standing log bytes words r h z e)
    room r h z false e = goes r h z e (fault-none b standing log bytes words r h z e)

    lines : (read_fault b standing).number ≡ 0 → not_empty b ≡ false → Dec ((log_fault log).number ≡ 0) → Outcome b standing log bytes words (replay_fault b standing log bytes words)
    lines r h (no n) = lined n (fault-lines b standing log bytes words r h n)
    lines r h (yes z) = room r h z (no_room b standing log bytes words) refl

    steps : (read_fault b standing).number ≡ 0 → (h : Bool) → not_empty b ≡ h → Outcome b standing log bytes words (replay_fault b standing log bytes words)
    steps r true e = stepped (fault-steps b standing log bytes words r e)
    steps r false e = lines r e (ℕ_discrete (log_fault log).number 0)

    read : Dec ((read_fault b standing).number ≡ 0) → Outcome b standing log bytes words (replay_fault b standing log bytes words)
    read (no n) = unread n (fault-reading b standing log bytes words n)
    read (yes r) = steps r (not_empty b) refl

-- ---- the answer of each
module _ (b standing log : List ℕ) (bytes words : ℕ) where
  abbrev answer : Answer
  answer = replay_answer b standing log bytes words

  answer-refused : (v : Verdict) → replay_fault b standing log bytes words ≡ v → (v.number ≡ 0 → ⊥) → answer ≡ nothing_done v
  unfolding replay_answer
  answer-refused v e n = sym (if_yes _ (ap nothing_done (sym e)) refl (ap not (ne_eqb _ 0 (λ z. n (sym (number_of e) ∙ z)))))

  answer-goes : replay_fault b standing log bytes words ≡ fine → answer ≡ run_answer (made_of b log) standing words
  unfolding replay_answer
  answer-goes e = sym (if_no _ refl (ap not (eq-eqb _ 0 (number_of e))) refl)

  -- a refusal before the steps is none of a step's
  away : (k : ℕ) → answer.refusal ≡ k → (k ≡ 0 → ⊥) → (OfStep k → ⊥) → Stepped answer → ⊥
  away k e n m (all z) = n (sym e ∙ z)
  away k e n m (up_to s) = m (subst OfStep e s)

  reading-number : (read_fault b standing).number ≤ 14
  reading-number = (read-within (table_in_use b standing) b).number

  -- what a replay that goes on to the steps has
  record Went : Type 0 where
    pub read : (read_fault b standing).number ≡ 0
    pub empty : not_empty b ≡ false
    pub lines : (log_fault log).number ≡ 0
    pub room : no_room b standing log bytes words ≡ false
    pub none : replay_fault b standing log bytes words ≡ fine

  log_number : ((log_fault log).number ≡ 0 → ⊥) → (50 ≤ (log_fault log).number) × ((log_fault log).number ≤ 51)
  log_number n = split (judgement log)
    where
      split : Judgement log → (50 ≤ (log_fault log).number) × ((log_fault log).number ≤ 51)
      split (right f) = absurd (n (number_of f))
      split (wrong_at p f) = (omega (arith, number_of f), omega (arith, number_of f))
      split (long_at p f) = (omega (arith, number_of f), omega (arith, number_of f))

  went : Stepped answer → Went
  went s = split (outcome b standing log bytes words)
    where
      split : Outcome b standing log bytes words (replay_fault b standing log bytes words) → Went
      split (unread n e) = absurd (away _ (refusal_of (answer-refused _ e n)) n (λ o. omega (arith, o.0, reading-number)) s)
      split (stepped e) = absurd (away 52 (refusal_of (answer-refused _ e (λ z. omega (arith, z)))) (λ z. omega (arith, z)) (λ o. omega (arith, o.1)) s)
      split (lined n e) = absurd (away _ (refusal_of (answer-refused _ e n)) n (λ o. omega (arith, o.1, (log_number n).0)) s)
      split (short e) = absurd (away 30 (refusal_of (answer-refused _ e (λ z. omega (arith, z)))) (λ z. omega (arith, z)) (λ o. omega (arith, o.1)) s)
      split (goes r h z q e) = record { read = r; empty = h; lines = z; room = q; none = e }

  -- the refusal is that of the log
  by_log : (k : ℕ) → 50 ≤ k → k ≤ 51 → answer.refusal ≡ k → ((log_fault log).number ≡ k) × (answer.place ≡ (log_fault log).place)
  by_log k l m h = split (outcome b standing log bytes words)
    where
      split : Outcome b standing log bytes words (replay_fault b standing log bytes words) → ((log_fault log).number ≡ k) × (answer.place ≡ (log_fault log).place)
      split (unread n e) = absurd (omega (arith, l, h, refusal_of (answer-refused _ e n), reading-number))
      split (stepped e) = absurd (omega (arith, m, h, refusal_of (answer-refused _ e (λ z. omega (arith, z)))))
      split (lined n e) = let f = answer-refused _ e n in (sym (refusal_of f) ∙ h, ap (λ (a : Answer). a.place) f)
      split (short e) = absurd (omega (arith, l, h, refusal_of (answer-refused _ e (λ z. omega (arith, z)))))
      split (goes r q z y e) = absurd (omega (arith, l, h, refusal_of (answer-goes e), (run-answer-within (made_of b log) standing words).refusal))

same-verdict : {v : Verdict} {k p : ℕ} → v.number ≡ k → v.place ≡ p → v ≡ verdict k p
same-verdict e f = λ i. record { number = e i; place = f i }

-- ---- the bundle that is made
module _ (b standing log out words : List ℕ) (W : Went b standing log (length out) (length words)) where
  abbrev table : List ℕ
  table = table_in_use b standing

  R : Read table b
  R = read_by b standing refl W.read refl

  abbrev c : List ℕ
  c = made_of b log

  X : Recast b (log_steps log) (form_of b) c
  X = made_recast table b R (log_steps log) (no_steps b refl W.empty) (steps-few most_steps log)

  made-read : (read_fault c standing).number ≡ 0
  made-read = number_of (recast_read standing R X) ∙ W.read

  made-room : room_in c standing ≤ length words
  unfolding no_room
  made-room = subst (λ (n : ℕ). n ≤ length words) (ap room_of (recast_sizes standing R X)) (ltb-false (length words) (room_of (sizes_in b standing)) (or-none (length out below (length b + length (log_steps log) * step_bytes)) _ W.room).1)

  abbrev a : Answer
  a = replay_answer b standing log (length out) (length words)

  ran : a ≡ ran_answer (ran_of c standing)
  ran = answer-goes b standing log (length out) (length words) W.none ∙ (demand1 c standing words).answer_ran made-read made-room

  made-runs : a.refusal ≡ 0 → Runs c standing
  unfolding ran_answer
  made-runs z = record { read = made-read; accepted = sym (refusal_of ran) ∙ z }

  same_answer : a ≡ run_answer c standing most_words
  same_answer = ran ∙ sym (run-read c standing most_words (omega arith) made-read)

  form-none : form_of c ≡ 0
  form-none = new_form table b R X ∙ message-form b refl W.empty

  beside : a.refusal ≡ 0 → SideBySide c standing (translation_of c standing 1)
  unfolding usual ◌if◌else◌
  beside z = subst (λ (k : ℕ). SideBySide c standing (translation_of c standing k)) (rw form-none) (demand3.side_by_side c standing (made-runs z) (omega (arith, form-none)))

  refused_too : OfStep a.refusal → (k : ℕ) (to : List ℕ) → no_other c k ≡ false → length c ≤ length to → Refuses c standing k to a
  refused_too o k to h l =
      subst (Refuses c standing k to) (sym same_answer)
      (demand3.refused c standing k to most_words (omega arith) l h (λ z. omega (arith, o.0, refusal_of same_answer, z)))

  made_holds : Made b standing log out words a (replay_bytes b standing log out (length words)) (replay_words b standing log (length out) words) c
  made_holds =
      let E = runs b standing log out words fine W.none refl refl refl refl in
      record {
        written = sym E.bytes;
        long = made-long table b log R (no_steps b refl W.empty) ∙ ap (λ (ss : List Step). length b + length ss * step_bytes) (sym (new_steps table b R X));
        table = same_table table b R X standing;
        starts = same_start_bytes table b R X;
        n = same_n table b R X;
        t = same_t table b R X;
        f = same_f table b R X;
        form = form-none;
        schedule = (exact.sound log W.lines).whole ∙ ap log_of (sym (new_steps table b R X));
        answer = answer-goes b standing log (length out) (length words) W.none;
        left = sym E.words_left;
        read = made-read;
        moves = demand2.bundles c standing made-read;
        runs = made-runs;
        translated = λ z k h. demand3.translated c standing k (made-runs z) h;
        side_by_side = beside;
        refused = refused_too;
      }

-- ---- there and back
-- the eight bytes of a trailer: two numbers of two bytes, and four more
trailer_of_lem : (y : List ℕ) → 4 ≤ length y → byte_at y 0 < 256 → byte_at y 2 < 256 → two_bytes (byte_at y 0 + 256 * byte_at y 1) (two_bytes (byte_at y 2 + 256 * byte_at y 3) (drop 4 y)) ≡ y
trailer_of_lem [] l p q = absurd (omega (arith, l))
trailer_of_lem (a ∷ []) l p q = absurd (omega (arith, l))
trailer_of_lem (a ∷ b ∷ []) l p q = absurd (omega (arith, l))
trailer_of_lem (a ∷ b ∷ c ∷ []) l p q = absurd (omega (arith, l))
trailer_of_lem (a ∷ b ∷ c ∷ d ∷ y) l p q =
    let e₀ : (a + 256 * b) % 256 ≡ a = omega arith in
    let e₁ : (a + 256 * b) / 256 ≡ b = omega arith in
    let e₂ : (c + 256 * d) % 256 ≡ c = omega arith in
    let e₃ : (c + 256 * d) / 256 ≡ d = omega arith in
    rw (e₀, e₁, e₂, e₃)

module _ (b standing : List ℕ) (bytes : (i : ℕ) → byte_at b i < 256) (z : (read_fault b standing).number ≡ 0) (o : form_of b ≡ 0) (C : AllSayable (schedule_of b)) where
  abbrev table₀ : List ℕ
  table₀ = table_in_use b standing

  B : Read table₀ b
  B = read_by b standing refl z refl

  abbrev ss : List Step
  ss = schedule_of b

  abbrev e : List ℕ
  e = emptied b

  -- the bundle without its steps is the bundle with none
  Y : Recast b [] (form_of b) e
  unfolding emptied bytes_of
  Y = with-steps table₀ b B [] 0 (correct_of b) (omega arith) refl (omega arith)

  empty-read : (read_fault e standing).number ≡ 0
  empty-read = number_of (recast_read standing B Y) ∙ z

  empty-none : not_empty e ≡ false
  unfolding not_empty
  empty-none = rw (eq-eqb (step_distance e) 0 (new_distance table₀ b B Y), eq-eqb (form_of e) 0 (new_form table₀ b B Y ∙ o))

  -- its log is right, and says its steps
  S : Sound (log_of ss) ss
  S = record { whole = refl; can = C; few = schedule-few table₀ b B }

  lines_none : (log_fault (log_of ss)).number ≡ 0
  lines_none = number_of (exact.sound_back (log_of ss) ss S).0

  lines_are : log_steps (log_of ss) ≡ ss
  lines_are = (exact.sound_back (log_of ss) ss S).1

  -- the trailer with the distances raised is the bundle's own
  trailer-again : raised e (length ss * step_bytes) ≡ drop (trailer_of b) b
  unfolding raised steps_of emptied Y with-steps
  trailer-again =
      let m : length ss * step_bytes ≡ step_distance b = sym (length-bytes ss) ∙ ap length (bytes-own b B.parted) ∙ B.parted.steps_long in
      let p : step_distance e + length ss * step_bytes ≡ step_distance b = omega (arith, new_distance table₀ b B Y, m) in
      let q : start_distance e + length ss * step_bytes ≡ start_distance b = omega (arith, empty-starts, m, B.parted.starts_first) in
      let r : drop (trailer_of e + 4) e ≡ drop 4 (drop (trailer_of b) b) = sym (drop-drop 4 (trailer_of e) e) ∙ ap (drop 4) (drop_trailer table₀ b B Y) ∙ sym (drop-drop 4 (trailer_of b) b) in
      let l : 4 ≤ length (drop (trailer_of b) b) = omega (arith, length-drop (trailer_of b) b, B.trailed.long) in
      let at : (i : ℕ) → byte_at (drop (trailer_of b) b) i ≡ byte_at b (trailer_of b + i) = λ i. get_or-drop (trailer_of b) b i 0 in
      let d₀ : step_distance b ≡ byte_at (drop (trailer_of b) b) 0 + 256 * byte_at (drop (trailer_of b) b) 1 = ap₂ (λ (x y : ℕ). x + 256 * y) (sym (at 0)) (ap (byte_at b) (omega arith) ∙ sym (at 1)) in
      let d₂ : start_distance b ≡ byte_at (drop (trailer_of b) b) 2 + 256 * byte_at (drop (trailer_of b) b) 3 = ap₂ (λ (x y : ℕ). x + 256 * y) (sym (at 2)) (ap (byte_at b) (omega arith) ∙ sym (at 3)) in
      ap₂ (λ (x y : ℕ). two_bytes x (two_bytes y (drop (trailer_of e + 4) e))) (p ∙ d₀) (q ∙ d₂)
      ∙ ap (λ (w : List ℕ). two_bytes (byte_at (drop (trailer_of b) b) 0 + 256 * byte_at (drop (trailer_of b) b) 1) (two_bytes (byte_at (drop (trailer_of b) b) 2 + 256 * byte_at (drop (trailer_of b) b) 3) w)) r
      ∙ trailer_of_lem (drop (trailer_of b) b) l (rw (at 0) (bytes (trailer_of b + 0))) (rw (at 2) (bytes (trailer_of b + 2)))
    where
      empty-starts : start_distance e ≡ correct_of b
      empty-starts = new_starts table₀ b B Y ∙ omega arith

  made_again : made_of e (log_of ss) ≡ b
  unfolding replay.made steps_of
  made_again =
      let k : trailer_of e ≡ steps_at b = omega (arith, recast_long table₀ b B Y) in
      let f : take (trailer_of e) e ≡ take (steps_at b) b = ap (λ (i : ℕ). take i e) k ∙ take_front table₀ b B Y (steps_at b) (omega arith) in
      let u : bytes_of ss ++ drop (trailer_of b) b ≡ drop (steps_at b) b =
      ap₂ (λ (x y : List ℕ). x ++ y) (bytes-own b B.parted) (ap (λ (i : ℕ). drop i b) (sym B.parted.steps_last) ∙ sym (drop-drop (step_distance b) (steps_at b) b)) ∙ take-append-drop (step_distance b) (drop (steps_at b) b) in
      ap (replay.made e) lines_are ∙ ap₂ (λ (x y : List ℕ). x ++ (bytes_of ss ++ y)) f trailer-again ∙ ap (λ (x : List ℕ). take (steps_at b) b ++ x) u ∙ take-append-drop (steps_at b) b

  module _ (out words : List ℕ) (l : length b ≤ length out) (m : room_in b standing ≤ length words) where
    room-there : no_room e standing (log_of ss) (length out) (length words) ≡ false
    unfolding no_room
    room-there =
        let n : length e + length (log_steps (log_of ss)) * step_bytes ≤ length out = omega (arith, l, sym (ap length made_again) ∙ made-long (table_in_use e standing) e (log_of ss) (read_by e standing refl empty-read refl) (new_distance table₀ b B Y)) in
        let k : room_of (sizes_in e standing) ≤ length words = subst (λ (x : ℕ). x ≤ length words) (ap room_of (recast_sizes standing B Y)) m in
        rw (le-ltb (length out) (length e + length (log_steps (log_of ss)) * step_bytes) n, le-ltb (length words) (room_of (sizes_in e standing)) k)

    none_refused : replay_fault e standing (log_of ss) (length out) (length words) ≡ fine
    none_refused = fault-none e standing (log_of ss) (length out) (length words) empty-read empty-none lines_none room-there

    back-holds : Back b standing out words (replay_answer e standing (log_of ss) (length out) (length words)) (replay_bytes e standing (log_of ss) out (length words)) (replay_words e standing (log_of ss) (length out) words)
    back-holds =
        let E = runs e standing (log_of ss) out words fine none_refused refl refl refl refl in
        record {
          bytes = sym E.bytes ∙ ap (λ (x : List ℕ). x ++ drop (length x) out) made_again;
          answer = sym E.answer ∙ ap (λ (x : List ℕ). run_answer x standing (length words)) made_again;
          left = sym E.words_left ∙ ap (λ (x : List ℕ). run_words x standing words) made_again;
        }

-- ---- before a step is looked at
unchanged : (b standing log out words : List ℕ) → Before (replay_answer b standing log (length out) (length words))
    → (replay_bytes b standing log out (length words) ≡ out) × (replay_words b standing log (length out) words ≡ words) × ((replay_answer b standing log (length out) (length words)).count ≡ 0)
unfolding ran_answer
unchanged b standing log out words P = split (outcome b standing log (length out) (length words))
  where
    gone : (v : Verdict) → replay_fault b standing log (length out) (length words) ≡ v → (v.number ≡ 0 → ⊥)
        → (replay_bytes b standing log out (length words) ≡ out) × (replay_words b standing log (length out) words ≡ words) × ((replay_answer b standing log (length out) (length words)).count ≡ 0)
    gone v e n =
        let E = refuses b standing log out words v e n refl in
        (sym E.bytes, sym E.words_left, ap (λ (a : Answer). a.count) (sym E.answer))

    stays : Went b standing log (length out) (length words) → ⊥
    stays G =
        let e = refusal_of (ran b standing log out words G) in
        P.no_step (subst OfStep (sym e) (ran-number (made_of b log) standing words (made-read b standing log out words G) (made-room b standing log out words G) (λ z. P.some (e ∙ z))))

    split : Outcome b standing log (length out) (length words) (replay_fault b standing log (length out) (length words))
        → (replay_bytes b standing log out (length words) ≡ out) × (replay_words b standing log (length out) words ≡ words) × ((replay_answer b standing log (length out) (length words)).count ≡ 0)
    split (unread n e) = gone (read_fault b standing) e n
    split (stepped e) = gone (refused 52) e (λ z. omega (arith, z))
    split (lined n e) = gone (log_fault log) e n
    split (short e) = gone (refused 30) e (λ z. omega (arith, z))
    split (goes r h z q e) = absurd (stays (record { read = r; empty = h; lines = z; room = q; none = e }))

by_verdict : (b standing log : List ℕ) (bytes words k p : ℕ) → (read_fault b standing).number ≡ 0 → not_empty b ≡ false → log_fault log ≡ verdict k p → 1 ≤ k → replay_answer b standing log bytes words ≡ refusal_at k p
by_verdict b standing log bytes words k p r h f l =
    let n : (log_fault log).number ≡ 0 → ⊥ = λ z. omega (arith, z, number_of f, l) in
    answer-refused b standing log bytes words _ (fault-lines b standing log bytes words r h n) n ∙ ap nothing_done f

-- ---- all of it
pub replay-holds : Replay
replay-holds = record {
  lines = exact;
  reading = λ b standing log bytes words n. answer-refused b standing log bytes words _ (fault-reading b standing log bytes words n) n;
  has_steps = λ b standing log bytes words r h. answer-refused b standing log bytes words (refused 52) (fault-steps b standing log bytes words r h) (λ z. omega (arith, z));
  wrong_line = λ b standing log bytes words p r h w. by_verdict b standing log bytes words 50 p r h (exact.fifty_back log p w) (omega arith);
  too_long = λ b standing log bytes words p r h w. by_verdict b standing log bytes words 51 p r h (exact.fifty_one_back log p w) (omega arith);
  fifty = λ b standing log bytes words h. let p = by_log b standing log bytes words 50 (omega arith) (omega arith) h in exact.fifty log _ (same-verdict p.0 (sym p.1));
  fifty_one = λ b standing log bytes words h. let p = by_log b standing log bytes words 51 (omega arith) (omega arith) h in exact.fifty_one log _ (same-verdict p.0 (sym p.1));
  unchanged = unchanged;
  made = λ b standing log out words s. made_holds b standing log out words (went b standing log (length out) (length words) s);
  short = λ b standing log bytes words ss r h S q. answer-refused b standing log bytes words (refused 30) (fault-room b standing log bytes words r h (number_of (exact.sound_back log ss S).0) q) (λ z. omega (arith, z));
  enough = λ b standing log bytes words ss r h S q. answer-goes b standing log bytes words (fault-none b standing log bytes words r h (number_of (exact.sound_back log ss S).0) q) ∙ ap (λ (x : List Step). run_answer (replay.made b x) standing words) (exact.sound_back log ss S).1;
  back = λ b standing out words bytes z o C l m. back-holds b standing bytes z o C out words l m;
}
