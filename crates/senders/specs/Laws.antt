-- What sets and counts have to do with each other, for every c and f. Their proof is `laws` of proofs/SetLaws.antt.
use Rattle.std.specs.Prelude.{◌≡◌, ◌≢◌, true, false, ℕ, suc, ◌+◌, ◌<◌}
use Rattle.senders.specs.Tally.{count, least, Least}
use Rattle.senders.specs.Set.{mem, insert, missing, correct_count, faulty_count}

pub record SetLaws : Type 0 where
  pub empty : (q : ℕ) → mem 0 q ≡ false
  pub insert_same : (s q : ℕ) → mem (insert q s) q ≡ true
  pub insert_other : (s q k : ℕ) → k ≢ q → mem (insert q s) k ≡ mem s k

-- the counts, where senders below c are correct and the f after them faulty
pub record CountLaws (c f : ℕ) : Type 0 where
  pub empty_correct : correct_count c 0 ≡ 0
  pub empty_faulty : faulty_count c f 0 ≡ 0
  pub correct_one_more : (s q : ℕ) → q < c → mem s q ≡ false → correct_count c (insert q s) ≡ suc (correct_count c s)
  pub correct_not_faulty : (s q : ℕ) → q < c → faulty_count c f (insert q s) ≡ faulty_count c f s
  pub faulty_one_more : (s i : ℕ) → i < f → mem s (c + i) ≡ false → faulty_count c f (insert (c + i) s) ≡ suc (faulty_count c f s)
  pub faulty_not_correct : (s i : ℕ) → correct_count c (insert (c + i) s) ≡ correct_count c s
  pub add_up : (s : ℕ) → count (c + f) (mem s) ≡ correct_count c s + faulty_count c f s
  -- a larger set has a member that the smaller one misses, and the search finds the lowest
  pub larger_misses : (s u : ℕ) → correct_count c s < correct_count c u → Least c (missing u s) (least c (missing u s))
