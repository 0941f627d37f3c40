-- A log by the texts of its steps: what is read line by line is the longest beginning that is the text of steps, and the refusal says where it ends.
use mathlib.Core.Path.{◌≡◌, refl, sym, ap, ap₂, subst, ◌∙◌}
use mathlib.Core.Bool.{Bool, true, false}
use mathlib.Core.List.{List, [], ◌∷◌, ◌++◌, append_assoc, append-nil}
use Prim.Native.Nat.{ℕ, zero, suc, ◌+◌, ◌-◌, ◌≤◌, ◌<◌}
use native.Mathlib.Omega.{arith}
use lib.Dec.{eqb}
use lib.ListN.{length}
use borrow.Author.Tests.{eqb-true, eqb-false}
use Rattle.fault.specs.Bytes.{most_steps}
use Rattle.fault.specs.Fault.{verdict, fine}
use Rattle.fault.specs.Fault.{Verdict}
use Rattle.paper.specs.Paper.{Step}
use Rattle.service_log.specs.Line.{line_of, log_of, AllSayable}
use Rattle.service_log.specs.Said.{Said, nothing, said, said_by}
use Rattle.service_log.specs.Lines.{fault_from, steps_from, log_fault, log_steps, SplitAt, Wrong, TooLong, Sound, Exact}
use Rattle.service_log.proofs.LinesLaws.{said-none, fault-none, fault-many, fault-wrong, fault-on, steps-none, steps_on, steps-few}
use Rattle.service_log.proofs.LineExact.{line_right, right_line, first_line_lem, no_line, is_right}

-- ---- forth: where reading ends, from line i on with room for n lines
data Ending (n i : ℕ) (ss : List Step) (left : List ℕ) (v : Verdict) : Type 0 where
  over : left ≡ [] → v ≡ fine → Ending n i ss left v
  long : (left ≡ [] → ⊥) → length ss ≡ n → v ≡ verdict 51 (i + length ss) → Ending n i ss left v
  wrong : (left ≡ [] → ⊥) → length ss < n → said_by left ≡ nothing → v ≡ verdict 50 (i + length ss) → Ending n i ss left v

record At (n i : ℕ) (t : List ℕ) (ss : List Step) (v : Verdict) : Type 0 where
  pub left : List ℕ
  pub split : SplitAt t ss left
  pub ending : Ending n i ss left v

abbrev Reached : ℕ → ℕ → List ℕ → Type 0
Reached n i t = At n i t (steps_from n t) (fault_from n i t)

comes_to_lem : {n i : ℕ} {t : List ℕ} {ss ss' : List Step} {v v' : Verdict} → ss ≡ ss' → v ≡ v' → At n i t ss' v' → At n i t ss v
comes_to_lem {n} {i} {t} {ss} {ss'} {v} {v'} e f A = subst (λ (x : Verdict). At n i t ss x) (sym f) (subst (λ (x : List Step). At n i t x v') (sym e) A)

none_left : (t : List ℕ) → length t ≡ 0 → t ≡ []
none_left [] h = refl
none_left (c ∷ t) h = absurd (omega (arith, h))

some_left : (t : List ℕ) → (length t ≡ 0 → ⊥) → t ≡ [] → ⊥
some_left t n e = n (ap length e)

on : (n i : ℕ) (s : Step) (ss : List Step) (left : List ℕ) (v : Verdict) → Ending n (i + 1) ss left v → Ending (suc n) i (s ∷ ss) left v
on n i s ss left v (over e f) = over e f
on n i s ss left v (long e l f) = long e (ap suc l) (f ∙ ap (verdict 51) (omega arith))
on n i s ss left v (wrong e l x f) = wrong e (omega (arith, l)) x (f ∙ ap (verdict 50) (omega arith))

reached-none : (n i : ℕ) → Reached n i []
unfolding log_of
reached-none n i = comes_to_lem {n = n} {i = i} {t = []} (steps-none n [] said-none) (fault-none n i) (record { left = []; split = record { whole = refl; can = tt }; ending = over refl refl })

empty : (n i : ℕ) (t : List ℕ) → t ≡ [] → Reached n i t
empty n i t e = subst (Reached n i) (sym e) (reached-none n i)

reached : (n i : ℕ) (t : List ℕ) → Reached n i t
unfolding steps_from log_of
reached zero i t = split (eqb (length t) 0) refl
  where
    split : (b : Bool) → eqb (length t) 0 ≡ b → Reached 0 i t
    split true h = empty 0 i t (none_left t (eqb-true (length t) 0 h))
    split false h =
        let z = eqb-false (length t) 0 h in
        record { left = t; split = record { whole = refl; can = tt }; ending = long (some_left t z) refl (fault-many i t z ∙ ap (verdict 51) (omega arith)) }
reached (suc n) i t = split (eqb (length t) 0) refl (λ u. reached n (i + 1) u)
  where
    said-on : (s : Step) (u : List ℕ) → said_by t ≡ said s u → Reached n (i + 1) u → Reached (suc n) i t
    said-on s u e R =
        let p = line_right t u s e in
        comes_to_lem (steps_on n t u s e) (fault-on n i t u s e)
        (record {
          left = R.left;
          split = record {
            whole = p.1 ∙ ap (λ (x : List ℕ). line_of s ++ x) R.split.whole ∙ sym (append_assoc (line_of s) (log_of (steps_from n u)) R.left);
            can = (p.0, R.split.can);
          };
          ending = on n i s (steps_from n u) R.left (fault_from n (i + 1) u) R.ending;
        })

    there : (x : Said) → said_by t ≡ x → (length t ≡ 0 → ⊥) → ((u : List ℕ) → Reached n (i + 1) u) → Reached (suc n) i t
    there nothing e z f =
        comes_to_lem (steps-none (suc n) t e) (fault-wrong n i t z e)
        (record { left = t; split = record { whole = refl; can = tt }; ending = wrong (some_left t z) (omega arith) e (ap (verdict 50) (omega arith)) })
    there (said s u) e z f = said-on s u e (f u)

    split : (b : Bool) → eqb (length t) 0 ≡ b → ((u : List ℕ) → Reached n (i + 1) u) → Reached (suc n) i t
    split true h f = empty (suc n) i t (none_left t (eqb-true (length t) 0 h))
    split false h f = there (said_by t) refl (eqb-false (length t) 0 h) f

-- ---- back: past the text of steps that lines can say
past-steps : (n : ℕ) (ss : List Step) (left : List ℕ) → AllSayable ss → length ss ≤ n → steps_from n (log_of ss ++ left) ≡ ss ++ steps_from (n - length ss) left
unfolding log_of
past-steps n [] left C l = ap (λ (m : ℕ). steps_from m left) (omega arith)
past-steps zero (s ∷ ss) left C l = absurd (omega (arith, l))
past-steps (suc n) (s ∷ ss) left C l =
    let e : suc n - suc (length ss) ≡ n - length ss = omega arith in
    rw (append_assoc (line_of s) (log_of ss) left, steps_on n (line_of s ++ (log_of ss ++ left)) (log_of ss ++ left) s (right_line (log_of ss ++ left) s C.0), e)
    (ap (λ (x : List Step). s ∷ x) (past-steps n ss left C.1 (omega (arith, l))))

past-fault : (n i : ℕ) (ss : List Step) (left : List ℕ) → AllSayable ss → length ss ≤ n → fault_from n i (log_of ss ++ left) ≡ fault_from (n - length ss) (i + length ss) left
unfolding log_of
past-fault n i [] left C l = ap₂ (λ (m j : ℕ). fault_from m j left) (omega arith) (omega arith)
past-fault zero i (s ∷ ss) left C l = absurd (omega (arith, l))
past-fault (suc n) i (s ∷ ss) left C l =
    let e : suc n - suc (length ss) ≡ n - length ss = omega arith in
    let f : i + suc (length ss) ≡ i + 1 + length ss = omega arith in
    rw (append_assoc (line_of s) (log_of ss) left, fault-on n i (line_of s ++ (log_of ss ++ left)) (log_of ss ++ left) s (right_line (log_of ss ++ left) s C.0), e, f)
    (past-fault n (i + 1) ss left C.1 (omega (arith, l)))

-- ---- logs
same_number : {v w : Verdict} → v ≡ w → v.number ≡ w.number
same_number e = ap (λ (v : Verdict). v.number) e

same_place : {v w : Verdict} → v ≡ w → v.place ≡ w.place
same_place e = ap (λ (v : Verdict). v.place) e

-- a log is right, or is refused with 50 or 51
pub data Judgement (log : List ℕ) : Type 0 where
  right : log_fault log ≡ fine → Judgement log
  wrong_at : (p : ℕ) → log_fault log ≡ verdict 50 p → Judgement log
  long_at : (p : ℕ) → log_fault log ≡ verdict 51 p → Judgement log

pub judgement : (log : List ℕ) → Judgement log
judgement log = split (reached most_steps 0 log) (reached most_steps 0 log).ending
  where
    split : (R : Reached most_steps 0 log) → Ending most_steps 0 (log_steps log) R.left (log_fault log) → Judgement log
    split R (over e f) = right f
    split R (long e l f) = long_at _ f
    split R (wrong e l x f) = wrong_at _ f

sound : (log : List ℕ) → (log_fault log).number ≡ 0 → Sound log (log_steps log)
sound log h = split (reached most_steps 0 log) (reached most_steps 0 log).ending
  where
    split : (R : Reached most_steps 0 log) → Ending most_steps 0 (log_steps log) R.left (log_fault log) → Sound log (log_steps log)
    split R (over e f) = record { whole = R.split.whole ∙ ap (λ (x : List ℕ). log_of (log_steps log) ++ x) e ∙ append-nil _; can = R.split.can; few = steps-few most_steps log }
    split R (long e l f) = absurd (omega (arith, h, same_number f))
    split R (wrong e l x f) = absurd (omega (arith, h, same_number f))

sound_back : (log : List ℕ) (ss : List Step) → Sound log ss → (log_fault log ≡ fine) × (log_steps log ≡ ss)
sound_back log ss S =
    let e : log ≡ log_of ss ++ [] = S.whole ∙ sym (append-nil _) in (
      ap log_fault e ∙ past-fault most_steps 0 ss [] S.can S.few ∙ fault-none (most_steps - length ss) (0 + length ss),
      ap log_steps e ∙ past-steps most_steps ss [] S.can S.few ∙ ap (λ (x : List Step). ss ++ x) (steps-none (most_steps - length ss) [] said-none) ∙ append-nil ss,
    )

fifty : (log : List ℕ) (p : ℕ) → log_fault log ≡ verdict 50 p → Wrong log p
fifty log p h = split (reached most_steps 0 log) (reached most_steps 0 log).ending
  where
    split : (R : Reached most_steps 0 log) → Ending most_steps 0 (log_steps log) R.left (log_fault log) → Wrong log p
    split R (over e f) = absurd (omega (arith, same_number h, same_number f))
    split R (long e l f) = absurd (omega (arith, same_number h, same_number f))
    split R (wrong e l x f) =
        let q : length (log_steps log) ≡ p = omega (arith, same_place h, same_place f) in
        record { before = log_steps log; left = R.left; split = R.split; place = q; few = omega (arith, l, q); there = e; wrong = no_line R.left x }

left-long : (t : List ℕ) → (t ≡ [] → ⊥) → length t ≡ 0 → ⊥
left-long t n e = n (none_left t e)

fifty_back : (log : List ℕ) (p : ℕ) → Wrong log p → log_fault log ≡ verdict 50 p
fifty_back log p W =
    let n : most_steps - length W.before ≡ suc (most_steps - length W.before - 1) = omega (arith, W.place, W.few) in
    let q : 0 + length W.before ≡ p = omega (arith, W.place) in
    ap log_fault W.split.whole ∙ past-fault most_steps 0 W.before W.left W.split.can (omega (arith, W.place, W.few))
    ∙ rw n (fault-wrong _ (0 + length W.before) W.left (left-long W.left W.there) (unread (said_by W.left) refl)) ∙ ap (verdict 50) q
  where
    unread : (x : Said) → said_by W.left ≡ x → said_by W.left ≡ nothing
    unread nothing e = e
    unread (said s t) e = absurd (W.wrong (is_right W.left t s e))

fifty_one : (log : List ℕ) (p : ℕ) → log_fault log ≡ verdict 51 p → TooLong log p
fifty_one log p h = split (reached most_steps 0 log) (reached most_steps 0 log).ending
  where
    split : (R : Reached most_steps 0 log) → Ending most_steps 0 (log_steps log) R.left (log_fault log) → TooLong log p
    split R (over e f) = absurd (omega (arith, same_number h, same_number f))
    split R (wrong e l x f) = absurd (omega (arith, same_number h, same_number f))
    split R (long e l f) =
        let q : length (log_steps log) ≡ p = omega (arith, same_place h, same_place f) in
        record { before = log_steps log; left = R.left; split = R.split; place = q; many = omega (arith, l, q); there = e }

fifty_one_back : (log : List ℕ) (p : ℕ) → TooLong log p → log_fault log ≡ verdict 51 p
fifty_one_back log p L =
    let n : most_steps - length L.before ≡ 0 = omega (arith, L.place, L.many) in
    let q : 0 + length L.before ≡ p = omega (arith, L.place) in
    ap log_fault L.split.whole ∙ past-fault most_steps 0 L.before L.left L.split.can (omega (arith, L.place, L.many))
    ∙ rw n (fault-many (0 + length L.before) L.left (left-long L.left L.there)) ∙ ap (verdict 51) q

pub exact : Exact
exact = record {
  line_right = line_right;
  right_line = right_line;
  first_line_lem = first_line_lem;
  no_line = no_line;
  sound = sound;
  sound_back = sound_back;
  fifty = fifty;
  fifty_back = fifty_back;
  fifty_one = fifty_one;
  fifty_one_back = fifty_one_back;
}
