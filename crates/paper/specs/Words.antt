-- The words of a configuration (outline, "Configuration words", with Q-11): C states; for each board and type a cell of k words; T sent words; the stopped boards. Their
-- places have their names here; the definitions above go by the views and by what changes them.
use Rattle.std.specs.Prelude.{Bool, List, ◌++◌, ℕ, zero, suc, ◌+◌, ◌*◌, length, get_or, set, replicate}
use Rattle.senders.specs.Set.{insert}
use Rattle.fault.specs.Fault.{◌if◌else◌}

-- how many words
unfoldable pub size : ℕ → ℕ → ℕ → ℕ
size C T k = C + C * T * k + T + 1

-- word e of board p's cell for type m
unfoldable pub cell_at : ℕ → ℕ → ℕ → ℕ → ℕ → ℕ → ℕ
cell_at C T k p m e = C + ((p * T + m) * k + e)

unfoldable pub sent_at : ℕ → ℕ → ℕ → ℕ → ℕ
sent_at C T k m = C + C * T * k + m

-- the set of stopped boards, bit p for board p (Q-11)
unfoldable pub stopped_at : ℕ → ℕ → ℕ → ℕ
stopped_at C T k = C + C * T * k + T

-- ---- views
unfoldable pub state : List ℕ → ℕ → ℕ
state w p = get_or w p 0

unfoldable pub cell : ℕ → ℕ → ℕ → List ℕ → ℕ → ℕ → ℕ → ℕ
cell C T k w p m e = get_or w (cell_at C T k p m e) 0

unfoldable pub sent : ℕ → ℕ → ℕ → List ℕ → ℕ → ℕ
sent C T k w m = get_or w (sent_at C T k m) 0

unfoldable pub stopped : ℕ → ℕ → ℕ → List ℕ → ℕ
stopped C T k w = get_or w (stopped_at C T k) 0

-- ---- changes
-- word e of board p's cell for type m is changed by g
unfoldable pub hear : ℕ → ℕ → ℕ → ℕ → ℕ → ℕ → (ℕ → ℕ) → List ℕ → List ℕ
hear C T k p m e g w = set w (cell_at C T k p m e) (g (cell C T k w p m e))

-- the sent words of the types below j that are new are changed by g
unfoldable pub tell : ℕ → ℕ → ℕ → (ℕ → Bool) → (ℕ → ℕ) → ℕ → List ℕ → List ℕ
tell C T k new g zero w = w
tell C T k new g (suc j) w = let v = tell C T k new g j w in set v (sent_at C T k j) (g (sent C T k v j)) if new j else v

-- board p joins the stopped ones
unfoldable pub stop : ℕ → ℕ → ℕ → ℕ → List ℕ → List ℕ
stop C T k p w = set w (stopped_at C T k) (insert p (stopped C T k w))

-- ---- the start: the start states, nothing received and nothing sent
unfoldable pub start : ℕ → ℕ → List ℕ → List ℕ
start T k starts = starts ++ replicate (length starts * T * k + T + 1) 0
