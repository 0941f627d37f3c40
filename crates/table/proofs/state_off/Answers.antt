-- With at most 4 types the shift gives `2 ^ T`, and a mask below it has no bit at or above T; the other two tests are literal.
use Rattle.table.proofs.TableLaws.{state-off_law}
use Rattle.table.proofs.state_off.Goals as goal

pub returns : goal.returns
returns c = search state-off_law
