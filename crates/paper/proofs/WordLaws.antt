-- What a receipt, a move and a send change of the views, and what they leave, since each word has a place of its own; the views of the start;
-- words with the same views are the same, since every place is in view.
use mathlib.Core.Path.{◌≡◌, refl, sym, ap, ◌∙◌, subst}
use mathlib.Core.Logic.{◌≢◌}
use mathlib.Core.Bool.{Bool, true, false}
use mathlib.Core.List.{List, ◌++◌}
use Prim.Native.Nat.{ℕ, zero, suc, ◌+◌, ◌-◌, ◌*◌, ◌/◌, ◌%◌, ◌≤◌, ◌<◌}
use native.Mathlib.Nat.{le_refl, mul-zero, zero-lt-suc, not-suc-le-zero, mod-lt, div-lt_iff_lt-mul, div-add-mod'}
use native.Mathlib.Omega.{arith}
use native.Mathlib.Decide.{ℕ_discrete, dec_lt}
use lib.Arith.{digits_lt, digits_div, digits_mod}
use lib.ListN.{length, get_or, set, replicate, length-set, length-replicate, length-append, get_or-append}
use lib.Seq.{get_or-set_same, get_or-set_other, get_or-append-add, ext_get_or}
use Rattle.senders.specs.Set.{insert}
use Rattle.fault.specs.Fault.{◌if◌else◌}
use Rattle.fault.proofs.FaultLaws.{if_keeps}
use Rattle.paper.specs.Words.{size, cell_at, sent_at, stopped_at, state, cell, sent, stopped, hear, tell, stop, start}

right_pos : (a b : ℕ) → 0 < a * b → 0 < b
right_pos a zero h = rw mul-zero at h
right_pos a (suc b) h = zero-lt-suc b

module _ (C T k : ℕ) where
  pub cell_below : (p m e : ℕ) → p < C → m < T → e < k → cell_at C T k p m e < sent_at C T k 0
  unfolding cell_at sent_at
  cell_below p m e hp hm he = omega (arith, digits_lt {q = p * T + m} {m = C * T} {r = e} {c = k} (digits_lt hp hm) he)

  pub cell_above : (p m e : ℕ) → C ≤ cell_at C T k p m e
  unfolding cell_at
  cell_above p m e = omega arith

  pub cell_inj : (p m e q j i : ℕ) → m < T → e < k → j < T → i < k → cell_at C T k p m e ≡ cell_at C T k q j i → (p ≡ q) × (m ≡ j) × (e ≡ i)
  unfolding cell_at
  cell_inj p m e q j i hm he hj hi h =
      let h₁ : (p * T + m) * k + e ≡ (q * T + j) * k + i = omega arith in
      let h₂ : p * T + m ≡ q * T + j = sym (digits_div (p * T + m) he) ∙ ap (λ (x : ℕ). x / k) h₁ ∙ digits_div (q * T + j) hi in (
        sym (digits_div p hm) ∙ ap (λ (x : ℕ). x / T) h₂ ∙ digits_div q hj,
        sym (digits_mod p hm) ∙ ap (λ (x : ℕ). x % T) h₂ ∙ digits_mod q hj,
        sym (digits_mod (p * T + m) he) ∙ ap (λ (x : ℕ). x % k) h₁ ∙ digits_mod (q * T + j) hi,
      )

  -- ---- a receipt
  pub length-hear : (w : List ℕ) (p m e : ℕ) (g : ℕ → ℕ) → length (hear C T k p m e g w) ≡ length w
  unfolding hear
  length-hear w p m e g = length-set w _ _

  module _ (w : List ℕ) (l : length w ≡ size C T k) (p m e : ℕ) (g : ℕ → ℕ) (hp : p < C) (hm : m < T) (he : e < k) where
    pub state-hear : (q : ℕ) → q < C → state (hear C T k p m e g w) q ≡ state w q
    unfolding hear state
    state-hear q h = get_or-set_other w _ q _ 0 (omega (arith, cell_above p m e))

    pub sent-hear : (j : ℕ) → sent C T k (hear C T k p m e g w) j ≡ sent C T k w j
    unfolding hear sent sent_at
    sent-hear j = get_or-set_other w _ _ _ 0 (omega (arith, cell_below p m e hp hm he))

    pub cell-hear-same : cell C T k (hear C T k p m e g w) p m e ≡ g (cell C T k w p m e)
    unfolding hear cell
    cell-hear-same = get_or-set_same w _ _ 0 (rw l (unfold size sent_at in omega (arith, cell_below p m e hp hm he)))

    pub cell-hear-other : (q j i : ℕ) → j < T → i < k → ((q ≡ p) × (j ≡ m) × (i ≡ e) → ⊥) → cell C T k (hear C T k p m e g w) q j i ≡ cell C T k w q j i
    unfolding hear cell
    cell-hear-other q j i hj hi no' = get_or-set_other w _ _ _ 0 (λ h. no' (cell_inj q j i p m e hj hi hm he h))

    pub stopped-hear : stopped C T k (hear C T k p m e g w) ≡ stopped C T k w
    unfolding hear stopped stopped_at sent_at
    stopped-hear = get_or-set_other w _ _ _ 0 (unfold sent_at in omega (arith, cell_below p m e hp hm he))

  -- ---- a move
  module _ (w : List ℕ) (l : length w ≡ size C T k) (p v : ℕ) (hp : p < C) where
    pub state_move_same : state (set w p v) p ≡ v
    unfolding state
    state_move_same = get_or-set_same w p v 0 (rw l (unfold size in omega arith))

    pub state_move_other : (q : ℕ) → q ≢ p → state (set w p v) q ≡ state w q
    unfolding state
    state_move_other q o = get_or-set_other w p q v 0 o

    pub cell_move : (q j i : ℕ) → cell C T k (set w p v) q j i ≡ cell C T k w q j i
    unfolding cell
    cell_move q j i = get_or-set_other w p _ v 0 (omega (arith, cell_above q j i))

    pub sent_move : (j : ℕ) → sent C T k (set w p v) j ≡ sent C T k w j
    unfolding sent sent_at
    sent_move j = get_or-set_other w p _ v 0 (omega arith)

    pub stopped_move : stopped C T k (set w p v) ≡ stopped C T k w
    unfolding stopped stopped_at
    stopped_move = get_or-set_other w p _ v 0 (omega arith)

  -- ---- a send
  module _ (new : ℕ → Bool) (g : ℕ → ℕ) where
    abbrev put : List ℕ → ℕ → List ℕ
    put v j = set v (sent_at C T k j) (g (sent C T k v j))

    put_same : (u : List ℕ) (n : ℕ) → sent_at C T k n < length u → sent C T k (put u n) n ≡ g (sent C T k u n)
    unfolding sent
    put_same u n h = get_or-set_same u (sent_at C T k n) _ 0 h

    put_other : (u : List ℕ) (n j : ℕ) → j ≢ n → sent C T k (put u n) j ≡ sent C T k u j
    unfolding sent sent_at
    put_other u n j o = get_or-set_other u _ _ _ 0 (omega arith)

    pub length-tell : (n : ℕ) (v : List ℕ) → length (tell C T k new g n v) ≡ length v
    unfolding tell
    length-tell zero v = refl
    length-tell (suc n) v = let u = tell C T k new g n v in if_keeps (λ (x : List ℕ). length x ≡ length v) (put u n) (new n) u (λ e. length-set u _ _ ∙ length-tell n v) (λ e. length-tell n v)

    tell-before : (n : ℕ) (v : List ℕ) (i : ℕ) → i < sent_at C T k 0 → get_or (tell C T k new g n v) i 0 ≡ get_or v i 0
    unfolding tell sent_at
    tell-before zero v i h = refl
    tell-before (suc n) v i h =
        let u = tell C T k new g n v in
        let ih = tell-before n v i h in
        if_keeps (λ (x : List ℕ). get_or x i 0 ≡ get_or v i 0) (put u n) (new n) u (λ e. get_or-set_other u _ i _ 0 (omega arith) ∙ ih) (λ e. ih)

    pub state-tell : (n : ℕ) (v : List ℕ) (q : ℕ) → q < C → state (tell C T k new g n v) q ≡ state v q
    unfolding state
    state-tell n v q h = tell-before n v q (unfold sent_at in omega arith)

    pub cell-tell : (n : ℕ) (v : List ℕ) (q j i : ℕ) → q < C → j < T → i < k → cell C T k (tell C T k new g n v) q j i ≡ cell C T k v q j i
    unfolding cell
    cell-tell n v q j i hq hj hi = tell-before n v _ (cell_below q j i hq hj hi)

    sent-tell_above : (n : ℕ) (v : List ℕ) (j : ℕ) → n ≤ j → sent C T k (tell C T k new g n v) j ≡ sent C T k v j
    unfolding tell
    sent-tell_above zero v j h = refl
    sent-tell_above (suc n) v j h =
        let u = tell C T k new g n v in
        let ih = sent-tell_above n v j (omega arith) in
        if_keeps (λ (x : List ℕ). sent C T k x j ≡ sent C T k v j) (put u n) (new n) u (λ e. put_other u n j (omega arith) ∙ ih) (λ e. ih)

    pub stopped-tell : (n : ℕ) (v : List ℕ) → n ≤ T → stopped C T k (tell C T k new g n v) ≡ stopped C T k v
    unfolding tell stopped stopped_at sent_at
    stopped-tell zero v h = refl
    stopped-tell (suc n) v h =
        let u = tell C T k new g n v in
        let ih = stopped-tell n v (omega arith) in
        if_keeps (λ (x : List ℕ). get_or x (stopped_at C T k) 0 ≡ get_or v (stopped_at C T k) 0) (put u n) (new n) u (λ e. get_or-set_other u _ _ _ 0 (unfold stopped_at in omega arith) ∙ ih) (λ e. ih)

    -- each sent word: changed where its type is new
    module _ (v : List ℕ) (l : length v ≡ size C T k) where
      pub sent-tell : (n j : ℕ) → n ≤ T → j < n → sent C T k (tell C T k new g n v) j ≡ (g (sent C T k v j) if new j else sent C T k v j)
      unfolding tell ◌if◌else◌
      sent-tell zero j n_t h = absurd (not-suc-le-zero h)
      sent-tell (suc n) j n_t h = go (ℕ_discrete j n) (new n) refl (sent-tell n j (omega arith))
        where
          u : List ℕ
          u = tell C T k new g n v

          inside : sent_at C T k n < length u
          inside = rw (length-tell n v, l) (unfold size sent_at in omega arith)

          go : Dec (j ≡ n) → (b : Bool) → new n ≡ b → (j < n → sent C T k u j ≡ (g (sent C T k v j) if new j else sent C T k v j))
              → sent C T k (put u n if b else u) j ≡ (g (sent C T k v j) if new j else sent C T k v j)
          go (yes e) true f ih = rw (e, f) (put_same u n inside ∙ ap g (sent-tell_above n v n (le_refl n)))
          go (yes e) false f ih = rw (e, f) (sent-tell_above n v n (le_refl n))
          go (no e) true f ih = put_other u n j e ∙ ih (omega arith)
          go (no e) false f ih = ih (omega arith)

    -- at most one type is new: at most one word is written
    pub tell_none : (n : ℕ) (v : List ℕ) → ((j : ℕ) → j < n → new j ≡ false) → tell C T k new g n v ≡ v
    unfolding tell ◌if◌else◌
    tell_none zero v h = refl
    tell_none (suc n) v h = rw (h n (le_refl (suc n))) (tell_none n v (λ j l. h j (omega arith)))

    pub tell-one : (n m : ℕ) (v : List ℕ) → m < n → new m ≡ true → ((j : ℕ) → j < n → j ≢ m → new j ≡ false) → tell C T k new g n v ≡ put v m
    unfolding tell ◌if◌else◌
    tell-one zero m v h e o = absurd (not-suc-le-zero h)
    tell-one (suc n) m v h e o = go (ℕ_discrete m n) (λ l. tell-one n m v l e (λ j b. o j (omega arith)))
      where
        go : Dec (m ≡ n) → (m < n → tell C T k new g n v ≡ put v m) → (put (tell C T k new g n v) n if new n else tell C T k new g n v) ≡ put v m
        go (yes q) ih = let f : new n ≡ true = rw (← q) e in rw (f, tell_none n v (λ j b. o j (omega arith) (omega arith)), q)
        go (no q) ih = rw (o n (le_refl (suc n)) (λ z. q (sym z))) (ih (omega arith))

  -- ---- the start
  zeros : (n i : ℕ) → ◌≡◌ {A = ℕ} (get_or (replicate n 0) i 0) 0
  zeros zero i = refl
  zeros (suc n) zero = refl
  zeros (suc n) (suc i) = zeros n i

  module _ (starts : List ℕ) (l : length starts ≡ C) where
    pub start-high : (i : ℕ) → C ≤ i → get_or (start T k starts) i 0 ≡ 0
    unfolding start
    start-high i h =
        let n = length starts * T * k + T + 1 in
        let e : length starts + (i - C) ≡ i = omega arith in
        subst (λ (x : ℕ). get_or (starts ++ replicate n 0) x 0 ≡ 0) e (get_or-append-add starts _ (i - C) 0 ∙ zeros n (i - C))

    pub start-low : (i : ℕ) → i < C → get_or (start T k starts) i 0 ≡ get_or starts i 0
    unfolding start
    start-low i h = get_or-append starts _ 0 i (rw l h)

    pub length-start : length (start T k starts) ≡ size C T k
    unfolding start size
    length-start = rw (length-append, length-replicate, l) (omega arith)

    pub cell-start : (p m e : ℕ) → cell C T k (start T k starts) p m e ≡ 0
    unfolding cell
    cell-start p m e = start-high _ (cell_above p m e)

    pub stopped-start : stopped C T k (start T k starts) ≡ 0
    unfolding stopped stopped_at
    stopped-start = start-high _ (omega arith)

    pub sent-start : (m : ℕ) → sent C T k (start T k starts) m ≡ 0
    unfolding sent sent_at
    sent-start m = start-high _ (omega arith)

  -- ---- a stop
  module _ (w : List ℕ) (l : length w ≡ size C T k) (p : ℕ) where
    pub length-stop : length (stop C T k p w) ≡ length w
    unfolding stop
    length-stop = length-set w _ _

    pub stopped-stop : stopped C T k (stop C T k p w) ≡ insert p (stopped C T k w)
    unfolding stop stopped stopped_at
    stopped-stop = get_or-set_same w _ _ 0 (rw l (unfold size in omega arith))

    pub state-stop : (q : ℕ) → q < C → state (stop C T k p w) q ≡ state w q
    unfolding stop state stopped_at
    state-stop q h = get_or-set_other w _ q _ 0 (omega arith)

    pub cell-stop : (q j i : ℕ) → q < C → j < T → i < k → cell C T k (stop C T k p w) q j i ≡ cell C T k w q j i
    unfolding stop cell stopped_at
    cell-stop q j i hq hj hi = get_or-set_other w _ _ _ 0 (unfold sent_at in omega (arith, cell_below q j i hq hj hi))

    pub sent-stop : (j : ℕ) → j < T → sent C T k (stop C T k p w) j ≡ sent C T k w j
    unfolding stop sent sent_at stopped_at
    sent-stop j h = get_or-set_other w _ _ _ 0 (omega arith)

  -- ---- words with the same views are the same
  pub same_words : (w u : List ℕ) → length w ≡ size C T k → length u ≡ size C T k → ((p : ℕ) → p < C → state w p ≡ state u p)
      → ((p m e : ℕ) → p < C → m < T → e < k → cell C T k w p m e ≡ cell C T k u p m e) → ((m : ℕ) → m < T → sent C T k w m ≡ sent C T k u m) → stopped C T k w ≡ stopped C T k u → w ≡ u
  unfolding size state cell sent stopped cell_at sent_at stopped_at
  same_words w u lw lu ep ec es et = ext_get_or 0 w u (lw ∙ sym lu) (λ i h. at i (rw lw at h))
    where
      at : (i : ℕ) → i < size C T k → get_or w i 0 ≡ get_or u i 0
      at i h = go (dec_lt i C) (dec_lt i (C + C * T * k))
        where
          go : Dec (i < C) → Dec (i < C + C * T * k) → get_or w i 0 ≡ get_or u i 0
          go (yes a) b = ep i a
          go (no a) (no b) = last (dec_lt i (C + C * T * k + T))
            where
              last : Dec (i < C + C * T * k + T) → get_or w i 0 ≡ get_or u i 0
              last (yes c) = subst (λ (x : ℕ). get_or w x 0 ≡ get_or u x 0) (omega arith) (es (i - (C + C * T * k)) (omega arith))
              last (no c) = subst (λ (x : ℕ). get_or w x 0 ≡ get_or u x 0) (omega arith) et
          go (no a) (yes b) =
              let x : ℕ = i - C in
              let hk = right_pos (C * T) k (omega arith) in
              let hc : x / k < C * T = (div-lt_iff_lt-mul hk).1 (omega arith) in
              let h_t = right_pos C T (omega arith) in
              subst (λ (y : ℕ). get_or w y 0 ≡ get_or u y 0) (ap (λ (z : ℕ). C + (z * k + x % k)) (div-add-mod' (x / k) T) ∙ (ap (λ (z : ℕ). C + z) (div-add-mod' x k) ∙ omega arith))
              (ec (x / k / T) (x / k % T) (x % k) ((div-lt_iff_lt-mul h_t).1 hc) (mod-lt (x / k) h_t) (mod-lt x hk))
