-- What every text that fits keeps: what was read stays, and all numbers stay in range.
use Prim.Native.Nat.{ℕ, zero, suc, ◌+◌, ◌<◌, ◌≤◌}
use mathlib.Core.Path.{◌≡◌, refl, sym}
use mathlib.Core.Bool.{Bool, true, false, cond}
use mathlib.Core.List.{List, [], ◌∷◌, ◌++◌, append_assoc, append-nil}
use native.Mathlib.Omega.{arith}
use lib.Dec.{eqb}
use borrow.Author.Tests.{eqb-true}
use Rattle.fault.specs.Bytes.{byte_at}
use Rattle.dot.specs.Text.{is_blank}
use Rattle.dot.specs.Plan.{Slot, types, factor, name, cell, coefficient, One, byte, blank as one-blank, line, kind, Item, named, state_line, rule_line, ending}
use Rattle.dot.specs.Reading.{Num, can_minus, byte_of, Gathered, put, new_state, new_rule, next_state, Turn, halt, to, take1}
use Rattle.dot.proofs.Fits.{Fits, done, blank, no_blank_lem, number, single}
use Rattle.senders.proofs.TallyLaws.{and_both as both}
use Rattle.dot.proofs.NumberLaws.{has-byte}

-- a relation that each thing read keeps
pub record Keeps (R : Gathered → Gathered → Type 0) : Type 0 where
  pub still : (r : Gathered) → R r r
  pub then : (a b c : Gathered) → R a b → R b c → R a c
  pub puts : (s : Slot) (v : ℕ) (r : Gathered) → v < 256 → R r (put s v r)
  pub states : (r : Gathered) → next_state r ≡ true → R r (new_state r)
  pub rules : (r : Gathered) → R r (new_rule r)

-- the relation holds after an item of one byte
abbrev KeptTurn : (Gathered → Gathered → Type 0) → Gathered → Turn → Type 0
KeptTurn R r halt = Unit {0}
KeptTurn R r (to k r') = R r r'

module _ {R : Gathered → Gathered → Type 0} (h : Keeps R) where
  -- where the plan goes on if a test passes
  kept_if : (r r' : Gathered) (k : List Item) (b : Bool) → (b ≡ true → R r r') → KeptTurn R r (cond b (to k r') halt)
  kept_if r r' k true f = f refl
  kept_if r r' k false f = tt

  -- by either branch of a test
  kept_either : (r : Gathered) (b : Bool) (p q : Turn) → KeptTurn R r p → KeptTurn R r q → KeptTurn R r (cond b p q)
  kept_either r true p q f g = f
  kept_either r false p q f g = g

  -- after any item of one byte
  kept-turn : (o : One) (k : List Item) (r : Gathered) (c : ℕ) → KeptTurn R r (take1 o k r c)
  unfolding take1
  kept-turn (byte b) k r c = kept_if r r k (eqb c b) (λ _. h.still r)
  kept-turn one-blank k r c = kept_if r r k (is_blank c) (λ _. h.still r)
  kept-turn line k r c =
      kept_either r (eqb c 125) (to ending r) (cond (eqb c 115) (to named r) halt) (h.still r)
      (kept_if r r named (eqb c 115) (λ _. h.still r))
  kept-turn kind k r c =
      kept_either r (eqb c 91) (cond (next_state r) (to state_line (new_state r)) halt) (cond (eqb c 45) (to (rule_line r.types) (new_rule r)) halt)
      (kept_if r (new_state r) state_line (next_state r) (h.states r))
      (kept_if r (new_rule r) (rule_line r.types) (eqb c 45) (λ _. h.rules r))

  -- whatever each step keeps, a whole text keeps
  pub kept : {k : List Item} {r q : Gathered} {x : Num} {t : List ℕ} → Fits k r x t q → R r q
  kept (done {r = r}) = h.still r
  kept (blank e f) = kept f
  kept (no_blank_lem f) = kept f
  kept (number {s = s} {r = r} {r' = q} n v d ok e f) =
      h.then r (put s (byte_of n v) r) q (h.puts s (byte_of n v) r (has-byte (can_minus s) n v ok).a_byte) (kept f)
  kept (single {o = o} {k = k} {r = r} {r' = r'} {r'' = q} {c = c} e f) =
      h.then r r' q (rw e at (kept-turn o k r c)) (kept f)

-- q has been read after r: r's body begins q's, and no state or rule is lost
abbrev pub Since : Gathered → Gathered → Type 0
Since r q = (more : List ℕ) × (q.body ≡ r.body ++ more) × (r.states + r.rules ≤ q.states + q.rules)

-- nothing more has been read
since_same : (r : Gathered) → Since r r
since_same r = ([], sym (append-nil r.body), omega arith)

-- a number adds a byte to the body or leaves it
since_put : (s : Slot) (v : ℕ) (r : Gathered) → v < 256 → Since r (put s v r)
unfolding put
since_put types v r l = since_same r
since_put factor v r l = since_same r
since_put name v r l = since_same r
since_put cell v r l = (v ∷ [], refl, omega arith)
since_put coefficient v r l = (v ∷ [], refl, omega arith)

-- every step adds to what has been read
pub since_keeps : Keeps Since
unfolding new_state new_rule
since_keeps =
    record {
      still = since_same;
      then = λ a b c f g. (f.0 ++ g.0, rw (g.1, f.1) (append_assoc a.body f.0 g.0), omega (arith, f.2, g.2));
      puts = since_put;
      states = λ r e. ([], sym (append-nil r.body), omega arith);
      rules = λ r. (r.last ∷ [], refl, omega arith);
    }

-- the types byte, k, the number of states, the last name and all bytes are in range
abbrev pub Ranged : Gathered → Type 0
Ranged r = (r.types ≤ 255) × (r.factor ≤ 255) × (r.states ≤ 256) × (r.last ≤ 255) × ((x : ℕ) → byte_at r.body x < 256)

-- a byte at the end of a list of bytes
byte-added : (b : List ℕ) (v : ℕ) → v < 256 → ((x : ℕ) → byte_at b x < 256) → (x : ℕ) → byte_at (b ++ (v ∷ [])) x < 256
byte-added [] v l h zero = l
byte-added [] v l h (suc x) = omega arith
byte-added (c ∷ b) v l h zero = h 0
byte-added (c ∷ b) v l h (suc x) = byte-added b v l (λ y. h (suc y)) x

-- a number below 256 in any slot
ranged_put : (s : Slot) (v : ℕ) (r : Gathered) → v < 256 → Ranged r → Ranged (put s v r)
unfolding put
ranged_put types v r l h = (omega arith, h.1, h.2, h.3, h.4)
ranged_put factor v r l h = (h.0, omega arith, h.2, h.3, h.4)
ranged_put name v r l h = (h.0, h.1, h.2, omega arith, h.4)
ranged_put cell v r l h = (h.0, h.1, h.2, h.3, byte-added r.body v l h.4)
ranged_put coefficient v r l h = (h.0, h.1, h.2, h.3, byte-added r.body v l h.4)

-- a state is named by the number of states before it, and no rule comes before it
pub state-named : (r : Gathered) → next_state r ≡ true → (r.last ≡ r.states) × (r.rules ≡ 0)
unfolding next_state
state-named r e =
    let p = both (eqb r.last r.states) (eqb r.rules 0) e in
    (eqb-true r.last r.states p.0, eqb-true r.rules 0 p.1)

-- every step stays in range
pub ranged_keeps : Keeps (λ r q. Ranged r → Ranged q)
unfolding new_state new_rule
ranged_keeps =
    record {
      still = λ r h. h;
      then = λ a b c f g h. g (f h);
      puts = ranged_put;
      states = λ r e h. (h.0, h.1, omega (arith, h.3, (state-named r e).0), h.3, h.4);
      rules = λ r h. (h.0, h.1, h.2, h.3, byte-added r.body r.last (omega (arith, h.3)) h.4);
    }
