-- Demand 3, for bundles as the calls see them: if a schedule runs, its translation to each other form is written and runs, with equal
-- board states, counts (or sums of them), sent counts and stopped boards after every step; from a coarser form to a finer one and back are the same
-- bytes; what running refuses, translation refuses with the same number and place. Proofs: proofs/Demand3.antt.
use Rattle.std.specs.Prelude.{◌≡◌, true, false, List, ◌++◌, ℕ, suc, ◌≤◌, ◌<◌, length, drop}
use Rattle.fault.specs.Fault.{refused, nothing_done}
use Rattle.fault.specs.declared.Answer.{Answer}
use Rattle.bundle.specs.Bundle.{n_of, t_of, f_of, form_of, correct_of, table_in_use, starts_of, level_of}
use Rattle.bundle.specs.Refusals.{read_fault}
use Rattle.paper.specs.Paper.{Design}
use Rattle.paper.specs.Words.{state}
use Rattle.paper.specs.Step.{column_of, sent_in, count_of, stopped_in}
use Rattle.agree.specs.Translation.{tagged, lowest}
use Rattle.agree.specs.Picture.{Pictured}
use Rattle.engine.specs.Design.{design_in, sizes_in}
use Rattle.engine.specs.Entry.{ran_of, run_answer}
use Rattle.translate.specs.Entry.{translation_of, no_other, translate_to_answer, translate_to_bytes, usual, translate_answer, translate_bytes}
use Rattle.paper.specs.Order.{Found, none, found, first}
use Rattle.first_step.specs.Entry.{answer_of, first_answer}
use Rattle.words.specs.Words.{correct_in, faulty_in, sent_count_in, stopped_of}
use Rattle.words.specs.Facts.{most_words}
use Rattle.claims.specs.Demand1.{Runs, after_in}

-- of a bundle beside its standing table: the types; and after the first i steps, the messages of type m that board p has received from
-- correct and from faulty boards, those that were sent, and the set of stopped boards, as a report shows them
abbrev pub types_in : List ℕ → List ℕ → ℕ
types_in b standing = (sizes_in b standing).types

abbrev pub correct_after : List ℕ → List ℕ → ℕ → ℕ → ℕ → ℕ
correct_after b standing i p m = correct_in (sizes_in b standing) (after_in b standing i) p m

abbrev pub faulty_after : List ℕ → List ℕ → ℕ → ℕ → ℕ → ℕ
faulty_after b standing i p m = faulty_in (sizes_in b standing) (after_in b standing i) p m

abbrev pub sent_after : List ℕ → List ℕ → ℕ → ℕ → ℕ
sent_after b standing i m = sent_count_in (sizes_in b standing) (after_in b standing i) m

abbrev pub stopped_after : List ℕ → List ℕ → ℕ → ℕ
stopped_after b standing i = stopped_of (sizes_in b standing) (after_in b standing i)

-- words w of level i and words v of level k: equal states, equal counts of each type, whatever they are made of, equal sent counts, the same boards stopped
pub record Alike (d : Design) (i : ℕ) (w : List ℕ) (k : ℕ) (v : List ℕ) : Type 0 where
  pub states : (p : ℕ) → p < d.boards → state w p ≡ state v p
  pub counts : (p m : ℕ) → p < d.boards → m < d.types → count_of i d w p m ≡ count_of k d v p m
  pub sents : (m : ℕ) → m < d.types → (column_of i d).card (sent_in i d w m) ≡ (column_of k d).card (sent_in k d v m)
  pub stops : stopped_in i d w ≡ stopped_in k d v

-- ---- a bundle b that runs, and its translation c to the form k
pub record Translated (b standing : List ℕ) (k : ℕ) (c : List ℕ) : Type 0 where
  -- it is written into any bytes that are enough, and the bytes past it stay
  pub answered : (lent : ℕ) → length b ≤ lent → translate_to_answer b standing k lent ≡ record { refusal = 0; place = 0; count = length b }
  pub written : (out : List ℕ) → length b ≤ length out → translate_to_bytes b standing k out ≡ c ++ drop (length b) out
  -- same length, same table, starts and n, t, f; the form changes
  pub long : length c ≡ length b
  pub table : table_in_use c standing ≡ table_in_use b standing
  pub starts : starts_of c ≡ starts_of b
  pub n : n_of c ≡ n_of b
  pub t : t_of c ≡ t_of b
  pub f : f_of c ≡ f_of b
  pub form : form_of c ≡ k
  -- it runs to its end, alike after every number of steps
  pub runs : Runs c standing
  pub alike : (i : ℕ) → Alike (design_in b standing) (level_of (form_of b)) (after_in b standing i) (level_of k) (after_in c standing i)
  -- to a finer form and back: the same bytes
  pub back : k < form_of b → translation_of c standing (form_of b) ≡ b

-- ---- demand 3's own sentence, for message and counting form: a bundle b that runs, and what `translate` writes, c
pub record SideBySide (b standing c : List ℕ) : Type 0 where
  pub answered : (lent : ℕ) → length b ≤ lent → translate_answer b standing lent ≡ record { refusal = 0; place = 0; count = length b }
  pub written : (out : List ℕ) → length b ≤ length out → translate_bytes b standing out ≡ c ++ drop (length b) out
  pub runs : Runs c standing
  -- after every number i of steps, for each correct board p and type m: equal states, correct counts, faulty counts and sent counts, and the same boards stopped
  pub states : (i p : ℕ) → p < correct_of b → state (after_in b standing i) p ≡ state (after_in c standing i) p
  pub corrects : (i p m : ℕ) → p < correct_of b → m < types_in b standing → correct_after b standing i p m ≡ correct_after c standing i p m
  pub faulties : (i p m : ℕ) → p < correct_of b → m < types_in b standing → faulty_after b standing i p m ≡ faulty_after c standing i p m
  pub sents : (i m : ℕ) → m < types_in b standing → sent_after b standing i m ≡ sent_after c standing i m
  pub stops : (i : ℕ) → stopped_after b standing i ≡ stopped_after c standing i

-- ---- a bundle that runs in form j, as c, and in form j + 1, as e: the picture of the paper, after every number of steps, and the same
-- first possible step, translated as one step more would be, or none in both
abbrev pub tagged_found : ℕ → Design → Found → Found
tagged_found j d none = none
tagged_found j d (found s) = found (tagged j d s)

abbrev pub lowest_found : ℕ → Design → List ℕ → Found → Found
lowest_found j d w none = none
lowest_found j d w (found s) = found (lowest j d w s)

pub record Neighbours (j : ℕ) (d : Design) (standing c e : List ℕ) : Type 0 where
  pub pictured : (i : ℕ) → Pictured j d (after_in c standing i) (after_in e standing i)
  pub first_there : first_answer e standing ≡ answer_of (tagged_found j d (first j d (ran_of c standing).left))
  pub first_back : first_answer c standing ≡ answer_of (lowest_found j d (ran_of c standing).left (first (suc j) d (ran_of e standing).left))

-- ---- a bundle that is refused, with the answer a
pub record Refuses (b standing : List ℕ) (k : ℕ) (out : List ℕ) (a : Answer) : Type 0 where
  pub answer : translate_to_answer b standing k (length out) ≡ record { refusal = a.refusal; place = a.place; count = 0 }
  pub bytes : translate_to_bytes b standing k out ≡ out

pub record Demand3 : Type 0 where
  pub translated : (b standing : List ℕ) (k : ℕ) → Runs b standing → no_other b k ≡ false → Translated b standing k (translation_of b standing k)
  pub side_by_side : (b standing : List ℕ) → Runs b standing → form_of b ≤ 1 → SideBySide b standing (translation_of b standing (usual b))
  -- in its own form a bundle is itself; so these are the bundle and its translations, in all forms that there are
  pub own : (b standing : List ℕ) → Runs b standing → translation_of b standing (form_of b) ≡ b
  pub neighbours : (b standing : List ℕ) (j : ℕ) → Runs b standing → j ≤ 1 → Neighbours j (design_in b standing) standing (translation_of b standing j) (translation_of b standing (suc j))
  -- 31 comes after what reading refuses, and before 30 and the steps
  pub no_other_form : (b standing : List ℕ) (k : ℕ) (out : List ℕ) → (read_fault b standing).number ≡ 0 → no_other b k ≡ true → Refuses b standing k out (nothing_done (refused 31))
  -- the most words that a configuration has are enough for every bundle: it runs exactly when `run` refuses nothing
  pub runs : (b standing : List ℕ) (lent : ℕ) → most_words ≤ lent → (run_answer b standing lent).refusal ≡ 0 → Runs b standing
  pub runs_all : (b standing : List ℕ) (lent : ℕ) → most_words ≤ lent → Runs b standing → (run_answer b standing lent).refusal ≡ 0
  pub refused : (b standing : List ℕ) (k : ℕ) (out : List ℕ) (lent : ℕ) → most_words ≤ lent → length b ≤ length out → no_other b k ≡ false → ((run_answer b standing lent).refusal ≡ 0 → ⊥)
      → Refuses b standing k out (run_answer b standing lent)
  -- any refusal, also for want of room, writes nothing
  pub untouched : (b standing : List ℕ) (k : ℕ) (out : List ℕ) → ((translate_to_answer b standing k (length out)).refusal ≡ 0 → ⊥)
      → (translate_to_bytes b standing k out ≡ out) × ((translate_to_answer b standing k (length out)).count ≡ 0)
  -- the usual form is another one
  pub usual_other : (b : List ℕ) → no_other b (usual b) ≡ false
  pub never_31 : (b standing : List ℕ) (lent : ℕ) → (translate_answer b standing lent).refusal ≡ 31 → ⊥
