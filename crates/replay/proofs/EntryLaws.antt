-- The answer, the bytes and the words in each case of the entry, from what the code has in hand.
use mathlib.Core.Path.{◌≡◌, refl, sym, ap, ◌∙◌}
use mathlib.Core.Bool.{Bool, true, false, not, ◌||◌}
use mathlib.Core.List.{List, ◌++◌}
use Prim.Native.Nat.{ℕ, ◌+◌, ◌*◌, ◌≤◌}
use native.Mathlib.Omega.{arith}
use lib.Dec.{ltb}
use lib.ListN.{length, drop}
use borrow.Author.Tests.{eq-eqb, ne_eqb, ltb-false}
use Rattle.fault.specs.Fault.{Verdict}
use Rattle.fault.specs.declared.Answer.{Answer}
use Rattle.fault.specs.Bytes.{step_bytes, most_steps}
use Rattle.fault.specs.Tests.{◌differs◌}
use Rattle.fault.specs.Fault.{fine, refused, nothing_done, ◌if◌else◌, ◌▹◌}
use Rattle.fault.proofs.FaultLaws.{if_yes, if_no}
use Rattle.fault.proofs.TestLaws.{or-none, same}
use Rattle.bundle.specs.Bundle.{step_distance, form_of, table_in_use}
use Rattle.bundle.specs.Refusals.{read_fault}
use Rattle.bundle.specs.Facts.{Read}
use Rattle.words.specs.declared.Sizes.{Sizes}
use Rattle.words.specs.Words.{room_of}
use Rattle.service_log.specs.Lines.{log_fault, log_steps}
use Rattle.service_log.proofs.LinesLaws.{steps-few}
use Rattle.engine.specs.Design.{sizes_in}
use Rattle.paper.specs.Run.{run}
use Rattle.rules.specs.Kept.{ByDesign}
use Rattle.engine.specs.Entry.{start_in, schedule_of, ran_answer, run_answer, run_words}
use Rattle.engine.proofs.EntryLaws.{ready-answer, ready_words, Entered, enter_run}
use Rattle.engine.specs.Open.{Ready, Parts}
use Rattle.engine.proofs.RecastLaws.{Recast, recast_long, recast_trailed, recast_parted, same_correct, recast_ready, recast_read}
use Rattle.replay.specs.Entry.{not_empty, made_of, no_room, replay_fault, replay_answer, replay_bytes, replay_words}
use Rattle.replay.specs.Facts.{Blank}
use Rattle.replay.proofs.MadeLaws.{made_recast}

-- ---- 52
pub no_steps : {x : Bool} (b : List ℕ) → x ≡ not_empty b → x ≡ false → step_distance b ≡ 0
unfolding not_empty
no_steps b e h = same (step_distance b) 0 (or-none (step_distance b differs 0) _ (sym e ∙ h)).0

pub message-form : {x : Bool} (b : List ℕ) → x ≡ not_empty b → x ≡ false → form_of b ≡ 0
unfolding not_empty
message-form b e h = same (form_of b) 0 (or-none (step_distance b differs 0) _ (sym e ∙ h)).1

-- ---- the bundle that is made
module _ (s : Sizes) (b log : List ℕ) (B : Blank s b) where
  pub made_is : Recast b (log_steps log) (form_of b) (made_of b log)
  made_is = made_recast B.table b B.read (log_steps log) B.none (steps-few most_steps log)

  pub made_parts : {x : List ℕ} → x ≡ made_of b log → Parts s x
  made_parts e = rw e (record {
    trailed = recast_trailed B.table b B.read made_is;
    parted = recast_parted B.table b B.read made_is;
    correct = B.correct ∙ sym (same_correct B.table b B.read made_is);
  })

pub made-long : (t b log : List ℕ) → Read t b → step_distance b ≡ 0 → length (made_of b log) ≡ length b + length (log_steps log) * step_bytes
made-long t b log R z =
    recast_long t b R (made_recast t b R (log_steps log) z (steps-few most_steps log)) ∙ omega (arith, R.parted.steps_last, z, R.trailed.long)

-- ---- a bundle that is ready, and the run of the one that is made
module _ {b standing : List ℕ} (log : List ℕ) {s : Sizes} {ends leasts : List ℕ} (D : Ready b standing s ends leasts) (r : (read_fault b standing).number ≡ 0) (z : step_distance b ≡ 0) where
  pub blank : Blank s b
  blank = record { table = table_in_use b standing; read = D.read; correct = ap (λ (x : Sizes). x.correct) D.sizes; none = z }

  remade : Recast b (log_steps log) (form_of b) (made_of b log)
  remade = made_is s b log blank

  pub made_entered : {need : ℕ} {a : Answer} {u : List ℕ} (words : List ℕ) → need ≡ room_of s → need ≤ length words
      → ByDesign s ends leasts (λ d. a ≡ ran_answer (run s.level d (start_in s (made_of b log)) (schedule_of (made_of b log))))
      → ByDesign s ends leasts (λ d. u ≡ (run s.level d (start_in s (made_of b log)) (schedule_of (made_of b log))).left)
      → Entered (made_of b log) standing words a (u ++ drop need words)
  made_entered words e l p q =
      let M = recast_ready standing D.read remade D r in
      enter_run (made_of b log) standing words (ap (λ (v : Verdict). v.number) (recast_read standing D.read remade) ∙ r) (e ∙ ap room_of M.sizes) l (ready-answer M p) (ready_words M q)

-- 30's test, by the numbers that the code has
pub room_test : (b standing log : List ℕ) (bytes words : ℕ) {n k : ℕ} {s : Sizes} → n ≡ length (log_steps log) → k ≡ room_of s → s ≡ sizes_in b standing
    → (ltb bytes (length b + n * step_bytes) || ltb words k) ≡ no_room b standing log bytes words
unfolding no_room
room_test b standing log bytes words e f g = rw (e, f, g)

pub bytes_fit : (a b : ℕ) (y : Bool) → (ltb a b || y) ≡ false → b ≤ a
bytes_fit a b y h = ltb-false a b (or-none (ltb a b) y h).0

pub words-fit : (x : Bool) (a b : ℕ) → (x || ltb a b) ≡ false → b ≤ a
words-fit x a b h = ltb-false a b (or-none x (ltb a b) h).1

-- ---- what was answered and left
pub record Replayed (b standing log out words : List ℕ) (a : Answer) (u w : List ℕ) : Type 0 where
  pub answer : a ≡ replay_answer b standing log (length out) (length words)
  pub bytes : u ≡ replay_bytes b standing log out (length words)
  pub words_left : w ≡ replay_words b standing log (length out) words

-- ---- which refusal it is
module _ (b standing log : List ℕ) (bytes words : ℕ) where
  abbrev fault : Verdict
  fault = replay_fault b standing log bytes words

  pub fault-reading : ((read_fault b standing).number ≡ 0 → ⊥) → fault ≡ read_fault b standing
  unfolding replay_fault ◌▹◌
  fault-reading n = rw (ne_eqb (read_fault b standing).number 0 n)

  module _ (r : (read_fault b standing).number ≡ 0) where
    pub fault-steps : not_empty b ≡ true → fault ≡ refused 52
    unfolding replay_fault ◌▹◌ ◌if◌else◌
    fault-steps h = rw (eq-eqb (read_fault b standing).number 0 r, h)

    module _ (h : not_empty b ≡ false) where
      pub fault-lines : ((log_fault log).number ≡ 0 → ⊥) → fault ≡ log_fault log
      unfolding replay_fault ◌▹◌ ◌if◌else◌
      fault-lines n = rw (eq-eqb (read_fault b standing).number 0 r, h, ne_eqb (log_fault log).number 0 n)

      module _ (z : (log_fault log).number ≡ 0) where
        pub fault-room : no_room b standing log bytes words ≡ true → fault ≡ refused 30
        unfolding replay_fault ◌▹◌ ◌if◌else◌
        fault-room q = rw (eq-eqb (read_fault b standing).number 0 r, h, eq-eqb (log_fault log).number 0 z, q)

        pub fault-none : no_room b standing log bytes words ≡ false → fault ≡ fine
        unfolding replay_fault ◌▹◌ ◌if◌else◌
        fault-none q = rw (eq-eqb (read_fault b standing).number 0 r, h, eq-eqb (log_fault log).number 0 z, q)

-- ---- what is answered and left
module _ (b standing log out words : List ℕ) (v : Verdict) (e : replay_fault b standing log (length out) (length words) ≡ v) where
  number_is : (replay_fault b standing log (length out) (length words)).number ≡ v.number
  number_is = ap (λ (x : Verdict). x.number) e

  pub refuses : {a : Answer} → (v.number ≡ 0 → ⊥) → a ≡ nothing_done v → Replayed b standing log out words a out words
  unfolding replay_answer replay_bytes replay_words
  refuses n f =
      let m = ap not (ne_eqb _ 0 (λ z. n (sym number_is ∙ z))) in
      record { answer = if_yes _ (f ∙ ap nothing_done (sym e)) refl m; bytes = if_yes _ refl refl m; words_left = if_yes _ refl refl m }

  pub runs : {a : Answer} {u w : List ℕ} → v.number ≡ 0
      → a ≡ run_answer (made_of b log) standing (length words) → u ≡ made_of b log ++ drop (length (made_of b log)) out → w ≡ run_words (made_of b log) standing words
      → Replayed b standing log out words a u w
  unfolding replay_answer replay_bytes replay_words
  runs z f o p = let m = ap not (eq-eqb _ 0 (number_is ∙ z)) in record { answer = if_no _ refl m f; bytes = if_no _ refl m o; words_left = if_no _ refl m p }

-- ---- the code, from what it has in hand
module _ (b standing log out words : List ℕ) where
  pub reading-refuses : {a : Answer} → ((read_fault b standing).number ≡ 0 → ⊥) → a ≡ nothing_done (read_fault b standing) → Replayed b standing log out words a out words
  reading-refuses n f = refuses b standing log out words (read_fault b standing) (fault-reading b standing log (length out) (length words) n) n f

  module _ (r : (read_fault b standing).number ≡ 0) where
    pub steps_refuse : {x : Bool} {a : Answer} → x ≡ not_empty b → x ≡ true → a ≡ nothing_done (refused 52) → Replayed b standing log out words a out words
    steps_refuse e h f = refuses b standing log out words (refused 52) (fault-steps b standing log (length out) (length words) r (sym e ∙ h)) (λ z. omega (arith, z)) f

    module _ {x : Bool} (e : x ≡ not_empty b) (h : x ≡ false) where
      pub log_refuses : {v : Verdict} {a : Answer} → v ≡ log_fault log → (v.number ≡ 0 → ⊥) → a ≡ nothing_done v → Replayed b standing log out words a out words
      log_refuses {v} ev n f =
          let s = ap (λ (x : Verdict). x.number) ev in
          refuses b standing log out words (log_fault log) (fault-lines b standing log (length out) (length words) r (sym e ∙ h) (λ z. n (s ∙ z))) (λ z. n (s ∙ z)) (f ∙ ap nothing_done ev)

      module _ (z : fine ≡ log_fault log) where
        no_wrong : (log_fault log).number ≡ 0
        no_wrong = sym (ap (λ (x : Verdict). x.number) z)

        pub room-refuses : {y : Bool} {a : Answer} → y ≡ no_room b standing log (length out) (length words) → y ≡ true → a ≡ nothing_done (refused 30) → Replayed b standing log out words a out words
        room-refuses g q f = refuses b standing log out words (refused 30) (fault-room b standing log (length out) (length words) r (sym e ∙ h) no_wrong (sym g ∙ q)) (λ z. omega (arith, z)) f

        pub replayed : {y : Bool} {a : Answer} {u w : List ℕ} → y ≡ no_room b standing log (length out) (length words) → y ≡ false
            → a ≡ run_answer (made_of b log) standing (length words) → u ≡ made_of b log ++ drop (length (made_of b log)) out → w ≡ run_words (made_of b log) standing words
            → Replayed b standing log out words a u w
        replayed g q f o p = runs b standing log out words fine (fault-none b standing log (length out) (length words) r (sym e ∙ h) no_wrong (sym g ∙ q)) refl f o p
