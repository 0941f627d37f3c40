-- 60's place: before it some drawing goes on, and one byte further none does.
use Prim.Native.Nat.{ℕ, suc, ◌≤◌, ◌<◌}
use mathlib.Core.Path.{◌≡◌, refl, sym, ◌∙◌}
use mathlib.Core.Bool.{Bool, true, false, cond}
use mathlib.Core.List.{List, [], ◌∷◌, ◌++◌}
use native.Mathlib.Omega.{arith}
use lib.ListN.{length, take}
use Rattle.dot.specs.Plan.{Item, header}
use Rattle.dot.specs.Reading.{Num, none, Gathered, nothing_read, ByteStep, stuck, at, next, ended, Outcome, drawn, fault, later, onward, run, reading}
use Rattle.dot.proofs.Fits.{Fits, Draws, ExactFit}
use Rattle.dot.proofs.Sound.{Sane, SaneStep, sane_next, Then, back, sound}
use Rattle.dot.proofs.Ends.{ends}
use Rattle.dot.proofs.Complete.{complete, neat_header, not-drawn}

-- of a run that ends at the place p
record Stops (t : List ℕ) (k : List Item) (r : Gathered) (x : Num) (p : ℕ) : Type 0 where
  within : p ≤ length t
  goes_on : (q : List ℕ) × (r' : Gathered) × Fits k r x (take p t ++ q) r'
  no_further : p < length t → (q : List ℕ) (r' : Gathered) → run (take (suc p) t ++ q) k r x ≡ drawn r' → ⊥

-- what an outcome tells of the text
abbrev Stopped : Outcome → List ℕ → List Item → Gathered → Num → Type 0
Stopped (drawn r') t k r x = Unit {0}
Stopped (fault p) t k r x = Stops t k r x p

-- the same after a step
abbrev StoppedAt : ByteStep → List ℕ → Type 0
StoppedAt stuck t = Unit {0}
StoppedAt (at k r x) t = Stopped (run t k r x) t k r x

-- where the text ends
stops_end : (k : List Item) (r : Gathered) (x : Num) → Sane k x → (b : Bool) → Stopped (cond b (drawn r) (fault 0)) [] k r x
stops_end k r x s true = tt
stops_end k r x s false = record { within = omega arith; goes_on = ends k r x s; no_further = λ h. omega arith }

-- what is drawn one byte later is drawn
earlier : (o : Outcome) (r : Gathered) → later o ≡ drawn r → o ≡ drawn r
earlier (drawn r') r e = e
earlier (fault p) r e = not-drawn e

-- a fault after a byte that was taken
stops-later : (o : Outcome) (c : ℕ) (t : List ℕ) (k k' : List Item) (r r' : Gathered) (x x' : Num) →
    next k r x c ≡ at k' r' x' → ((u : List ℕ) (r'' : Gathered) → Fits k' r' x' u r'' → Fits k r x (c ∷ u) r'') →
    Stopped o t k' r' x' → Stopped (later o) (c ∷ t) k r x
unfolding run onward
stops-later (drawn _) c t k k' r r' x x' h b s = tt
stops-later (fault p) c t k k' r r' x x' h b s =
    record {
      within = omega arith;
      goes_on = (s.goes_on.0, s.goes_on.1, b (take p t ++ s.goes_on.0) s.goes_on.1 s.goes_on.2);
      no_further = λ l q r'' e. s.no_further (omega arith) q r'' (earlier (run (take (suc p) t ++ q) k' r' x') r'' (rw h at e));
    }

-- a byte that is taken or not
stops-step : (c : ℕ) (t : List ℕ) (k : List Item) (r : Gathered) (x : Num) → Sane k x → (e : ByteStep) → next k r x c ≡ e →
    StoppedAt e t → ((u : List ℕ) (r'' : Gathered) → Then e u r'' → Fits k r x (c ∷ u) r'') → Stopped (onward e (run t)) (c ∷ t) k r x
unfolding onward run
stops-step c t k r x s stuck h i b =
    record { within = omega arith; goes_on = ends k r x s; no_further = λ l q r'' e. not-drawn (rw h at e) }
stops-step c t k r x s (at k' r' x') h i b = stops-later (run t k' r' x') c t k k' r r' x x' h b i

-- every fault is where the run stops
stops : (t : List ℕ) (k : List Item) (r : Gathered) (x : Num) → Sane k x → Stopped (run t k r x) t k r x
unfolding run
stops [] k r x s = stops_end k r x s (ended k)
stops (c ∷ t) k r x s =
    stops-step c t k r x s (next k r x c) refl (each (next k r x c) (sane_next k r x c s) (stops t)) (λ u r''. back k r x c s)
  where
    each : (e : ByteStep) → SaneStep e → ((k : List Item) (r : Gathered) (x : Num) → Sane k x → Stopped (run t k r x) t k r x) → StoppedAt e t
    each stuck z f = tt
    each (at k' r' x') z f = f k' r' x' z

-- the place of a fault is 60's place
pub exact : (t : List ℕ) (p : ℕ) → reading t ≡ fault p → ExactFit t p
unfolding reading
exact t p e =
    let s : Stops t header nothing_read none p = rw e at (stops t header nothing_read none tt) in
    record {
      within = s.within;
      goes_on = s.goes_on;
      no_further = λ l b. s.no_further l b.0 b.1 (complete neat_header b.2);
      no_drawing = λ r d. not-drawn (sym e ∙ complete neat_header d);
    }

-- what is read is what the text draws
pub read-draws : (t : List ℕ) (r : Gathered) → reading t ≡ drawn r → Draws t r
unfolding reading
read-draws t r e = rw e at (sound t header nothing_read none tt)

-- and it draws nothing else
pub draws-read : (t : List ℕ) (r : Gathered) → Draws t r → reading t ≡ drawn r
unfolding reading
draws-read t r d = complete neat_header d
