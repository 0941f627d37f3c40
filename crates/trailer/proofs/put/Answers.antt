-- Each byte of the trailer is the low or the high one of its number. The counts fit a byte, and the distances two, since the records are few bytes.
use mathlib.Core.Path.{◌≡◌, refl, sym}
use Prim.Native.Nat.{ℕ, ◌+◌, ◌*◌, ◌≤◌}
use native.Mathlib.Omega.{arith}
use Rattle.layout.specs.Layout.{types_in, rule_bytes}
use Rattle.table.specs.Table.{state_bytes, most_records}
use Rattle.table.specs.Facts.{CountsFit}
use Rattle.table.proofs.TableLaws.{records_short}
use Rattle.ink.proofs.InkLaws.{put_as}
use Rattle.trailer.proofs.TrailerLaws.{trailer-is}
use Rattle.trailer.proofs.put.Goals as goal

room : {n m k l rules : ℕ} (byte : ℕ) → CountsFit n m (types_in byte) k → l ≡ rule_bytes byte → rules ≡ m * l → state_bytes * n + rules ≤ most_records
room {n} {m} byte x e f = rw (f, e) (records_short n m byte x.few_states x.few_rules x.few_types)

pub high-requires : goal.high-requires
high-requires c = omega (arith, room _ c.requires.0 c.rule_bytes.ensures.0 c.times-of_rules.ensures.0)

pub returns : goal.returns
returns c = put_as
    (sym (trailer-is c.requires.0 c.requires.1 c.rule_bytes.ensures.0 c.times-of_rules.ensures.0 refl c.low.ensures c.high.ensures c.low-2.ensures c.high-2.ensures
    c.low-3.ensures c.low-4.ensures c.low-5.ensures c.low-6.ensures))
    c.put_all.ensures
