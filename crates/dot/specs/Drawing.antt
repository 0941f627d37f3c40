-- What a drawing is, and where a text leaves all of them (Q-1, "the first byte (or the length) at which no drawing of ours could go on").
-- Proofs: proofs/Tokens.antt and proofs/TokenPlace.antt.
use Rattle.std.specs.Prelude.{ℕ, suc, ◌≤◌, ◌<◌, ◌≡◌, List, ◌++◌, length, take}
use Rattle.fault.specs.Bytes.{byte_at}
use Rattle.table.specs.Table.{records_bytes}
use Rattle.dot.specs.Text.{Spaced, table_text}

-- t has the tokens of a table with a types byte, factor k, n states and m rules with the records s, all numbers in range, and any blanks between them
pub record Tokens (t : List ℕ) (byte k n m : ℕ) (s : List ℕ) : Type 0 where
  pub few_types : byte ≤ 255
  pub few_factor : k ≤ 255
  pub few_states : n ≤ 256
  pub all_bytes : (x : ℕ) → byte_at s x < 256
  pub whole : length s ≡ records_bytes n m byte
  pub spaced : Spaced (table_text byte k n m s) t

pub record Drawing (t : List ℕ) : Type 0 where
  pub types : ℕ
  pub factor : ℕ
  pub states : ℕ
  pub rules : ℕ
  pub body : List ℕ
  pub tokens : Tokens t types factor states rules body

-- some drawing begins with p
abbrev pub Begins : List ℕ → Type 0
Begins p = (q : List ℕ) × Drawing (p ++ q)

-- 60's place: some drawing goes on before it and none one byte further; where it is the text's length, the text begins a drawing and is none
pub record Exact (t : List ℕ) (p : ℕ) : Type 0 where
  pub within : p ≤ length t
  pub goes_on : Begins (take p t)
  pub no_further : p < length t → Begins (take (suc p) t) → ⊥
  pub no_drawing : Drawing t → ⊥
