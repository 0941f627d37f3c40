-- 60's place in terms of tokens alone: before it the text begins some drawing, and one byte further it begins none.
use Prim.Native.Nat.{ℕ, suc}
use mathlib.Core.Path.{◌≡◌}
use mathlib.Core.List.{List, ◌++◌}
use lib.ListN.{take}
use Rattle.dot.specs.Reading.{Gathered, fault, reading}
use Rattle.dot.specs.Drawing.{Drawing, Exact}
use Rattle.dot.proofs.Fits.{Draws}
use Rattle.dot.proofs.Place.{exact, read-draws}
use Rattle.dot.proofs.Tokens.{draws-tokens, tokens-read}

-- what fits the plan is a drawing
draws-drawing : (t : List ℕ) (r : Gathered) → Draws t r → Drawing t
draws-drawing t r d =
    record { types = r.types; factor = r.factor; states = r.states; rules = r.rules; body = r.body; tokens = draws-tokens t r d }

-- and a drawing fits the plan
drawing-draws : (t : List ℕ) → Drawing t → (r : Gathered) × Draws t r
drawing-draws t d =
    let e = tokens-read t d.types d.factor d.states d.rules d.body d.tokens in
    (_, read-draws t _ e.1)

-- a fault stands at 60's place
pub exact-place : (t : List ℕ) (p : ℕ) → reading t ≡ fault p → Exact t p
exact-place t p e =
    let x = exact t p e in
    let b = x.goes_on in
    record {
      within = x.within;
      goes_on = (b.0, draws-drawing (take p t ++ b.0) b.1 b.2);
      no_further = λ l f. let d = drawing-draws (take (suc p) t ++ f.0) f.1 in x.no_further l (f.0, d.0, d.1);
      no_drawing = λ f. let d = drawing-draws t f in x.no_drawing d.0 d.1;
    }
