-- A whole log, line by line: the refusal and the steps from each line on.
use mathlib.Core.Path.{◌≡◌, refl, sym, ap, subst, ◌∙◌}
use mathlib.Core.Bool.{Bool, true, false, true≢false}
use mathlib.Core.List.{List, [], ◌∷◌}
use Prim.Native.Nat.{ℕ, zero, suc, ◌+◌, ◌-◌, ◌≤◌, ◌<◌}
use native.Mathlib.Omega.{arith}
use lib.ListN.{length, drop, length-drop, drop_of_length-le}
use borrow.Author.Tests.{ne_eqb}
use Rattle.fault.specs.Bytes.{most_steps}
use Rattle.fault.specs.Fault.{verdict, fine, ◌if◌else◌}
use Rattle.std.specs.Prelude.{Result, Ok, Err}
use Rattle.fault.specs.Refusals as fault
use Rattle.fault.specs.declared.refusals.Refused.{Refused}
use Rattle.fault.specs.declared.refusals.Refusal.TheVariants.{WrongLine, TooManyLines}
use Rattle.paper.specs.Paper.{Step}
use Rattle.schedule.specs.Records.{meant, put_record, put_from}
use Rattle.schedule.specs.declared.Step as schedule
use Rattle.schedule.proofs.RecordLaws.{put-length}
use Rattle.service_log.specs.Said.{Said, nothing, said, begins, numbered, said_by}
use Rattle.service_log.specs.Lines.{judged, fault_from, taken, steps_from, log_fault, log_steps}
use Rattle.service_log.specs.Cursor.{right_lines, Handed}
use Rattle.service_log.specs.declared.Line.{Line}

abbrev told : Said → Bool
told nothing = false
told (said s t) = true

pub told-apart : {s : Step} {t : List ℕ} → nothing ≡ said s t → ⊥
told-apart e = true≢false (sym (ap told e))

-- ---- one line of what is left
pub said-none : said_by [] ≡ nothing
unfolding said_by numbered begins ◌if◌else◌
said-none = refl

pub fault-none : (n i : ℕ) → fault_from n i [] ≡ fine
unfolding fault_from ◌if◌else◌
fault-none zero i = refl
fault-none (suc n) i = refl

pub fault-many : (i : ℕ) (t : List ℕ) → (length t ≡ 0 → ⊥) → fault_from 0 i t ≡ verdict 51 i
unfolding fault_from ◌if◌else◌
fault-many i t h = rw (ne_eqb (length t) 0 h)

pub fault-wrong : (n i : ℕ) (t : List ℕ) → (length t ≡ 0 → ⊥) → said_by t ≡ nothing → fault_from (suc n) i t ≡ verdict 50 i
unfolding fault_from judged ◌if◌else◌
fault-wrong n i t h e = rw (ne_eqb (length t) 0 h, e)

pub fault-on : (n i : ℕ) (t t' : List ℕ) (s : Step) → said_by t ≡ said s t' → fault_from (suc n) i t ≡ fault_from n (i + 1) t'
unfolding fault_from judged ◌if◌else◌
fault-on n i [] t' s e = absurd (told-apart (sym said-none ∙ e))
fault-on n i (c ∷ t) t' s e = let o : length (c ∷ t) ≡ 0 → ⊥ = λ z. omega (arith, z) in rw (ne_eqb (length (c ∷ t)) 0 o, e)

pub steps-none : (n : ℕ) (t : List ℕ) → said_by t ≡ nothing → steps_from n t ≡ []
unfolding steps_from taken
steps-none zero t e = refl
steps-none (suc n) t e = rw e

pub steps_on : (n : ℕ) (t t' : List ℕ) (s : Step) → said_by t ≡ said s t' → steps_from (suc n) t ≡ s ∷ steps_from n t'
unfolding steps_from taken
steps_on n t t' s e = rw e

pub steps-few : (n : ℕ) (t : List ℕ) → length (steps_from n t) ≤ n
unfolding steps_from taken
steps-few zero t = omega arith
steps-few (suc n) t = split (said_by t) (steps-few n)
  where
    split : (x : Said) → ((t : List ℕ) → length (steps_from n t) ≤ n) → length (taken x (steps_from n)) ≤ suc n
    split nothing f = omega arith
    split (said s t) f = omega (arith, f t)

-- ---- the loop: the refusal, the steps and what is written from line i on, after the lines before
pub record Taking (log out₀ : List ℕ) (at i : ℕ) (out : List ℕ) : Type 0 where
  pub few : i ≤ most_steps
  pub long : length out ≡ length out₀
  pub fault : log_fault log ≡ fault_from (most_steps - i) i (drop at log)
  pub count : length (log_steps log) ≡ i + length (steps_from (most_steps - i) (drop at log))
  pub written : put_from 0 (log_steps log) out₀ ≡ put_from i (steps_from (most_steps - i) (drop at log)) out

-- what is answered and left
pub record Took (log out₀ : List ℕ) (r : Result ℕ Refused) (out : List ℕ) : Type 0 where
  pub fault : fault.told r ≡ log_fault log
  pub count : right_lines r ≡ length (log_steps log)
  pub written : out ≡ put_from 0 (log_steps log) out₀

pub taking_none : (log out : List ℕ) → Taking log out 0 0 out
taking_none log out = record { few = omega arith; long = refl; fault = refl; count = omega arith; written = refl }

module _ {log out₀ : List ℕ} {at i : ℕ} {out : List ℕ} (T : Taking log out₀ at i out) where
  -- no step is left
  took : (r : Result ℕ Refused) → right_lines r ≡ i → fault_from (most_steps - i) i (drop at log) ≡ fault.told r → steps_from (most_steps - i) (drop at log) ≡ [] → Took log out₀ r out
  unfolding put_from
  took r n e f = record {
    fault = sym (T.fault ∙ e);
    count = omega (arith, n, T.count, ap length f);
    written = sym (T.written ∙ ap (λ (ss : List Step). put_from i ss out) f);
  }

  pub taking_end : length log ≤ at → Took log out₀ (Ok i) out
  taking_end h =
      let e = drop_of_length-le log h in
      took (Ok i) refl (ap (fault_from (most_steps - i) i) e ∙ fault-none (most_steps - i) i) (steps-none (most_steps - i) _ (ap said_by e ∙ said-none))

  left_there : at < length log → length (drop at log) ≡ 0 → ⊥
  left_there l z = omega (arith, z, length-drop at log)

  pub taking_long : most_steps ≤ i → at < length log → Took log out₀ (Err (record { refusal = TooManyLines; place = most_steps })) out
  unfolding steps_from
  taking_long l h =
      let n : most_steps - i ≡ 0 = omega arith in
      let e : i ≡ most_steps = omega (arith, T.few) in
      took (Err (record { refusal = TooManyLines; place = most_steps })) (sym e) (rw n (fault-many i _ (left_there h)) ∙ ap (verdict 51) e) (rw n)

  pub taking_full : most_steps ≤ i → length log ≤ at → Took log out₀ (Ok most_steps) out
  taking_full l h = let e : i ≡ most_steps = omega (arith, T.few) in subst (λ (n : ℕ). Took log out₀ (Ok n) out) e (taking_end h)

  module _ (l : i < most_steps) where
    one_less : most_steps - i ≡ suc (most_steps - (i + 1))
    one_less = omega arith

    pub taking_other : Handed log at Line.Other → Took log out₀ (Err (record { refusal = WrongLine; place = i })) out
    taking_other H = took (Err (record { refusal = WrongLine; place = i })) refl (rw one_less (fault-wrong _ i _ (left_there H.0) H.1)) (steps-none (most_steps - i) _ H.1)

    pub taking_more : (x : schedule.Step) (j : ℕ) (u : List ℕ) → Handed log at (Line.Said x j) → u ≡ put_record out i (meant x) → Taking log out₀ j (i + 1) u
    unfolding put_from
    taking_more x j u H e =
        let s = steps_on (most_steps - (i + 1)) _ _ _ H.1.0 in
        rw e
        (record {
          few = omega arith;
          long = put-length out i (meant x) ∙ T.long;
          fault = T.fault ∙ rw one_less (fault-on _ i _ _ _ H.1.0);
          count = T.count ∙ rw (one_less, s) (omega arith);
          written = T.written ∙ rw (one_less, s);
        })
