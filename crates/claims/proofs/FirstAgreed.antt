-- The first possible step in neighbouring forms. Each is accepted in its own form and so, translated, in the other; neither may then
-- come before the other's first.
use mathlib.Core.Path.{◌≡◌, refl, sym, ap, ap₂, ◌∙◌, subst}
use mathlib.Core.Bool.{Bool, true, false, true≢false}
use mathlib.Core.List.{List}
use Prim.Native.Nat.{ℕ, suc, ◌<◌, ◌≤◌}
use native.Mathlib.Decide.{dec_lt}
use native.Mathlib.Omega.{arith}
use Rattle.paper.specs.Paper.{Design, Step, silent, stop_rule, is_stop}
use Rattle.paper.specs.Step.{column_of, rcvd_in, sent_in, step_fault}
use Rattle.paper.proofs.StepLaws.{accepted, Arrives, ruled, loud_rule}
use Rattle.agree.specs.Translation.{tag_of, with_source, tagged, low_sender, lowest}
use Rattle.agree.specs.Picture.{Remembers, Pictured}
use Rattle.agree.proofs.Columns.{picture_laws}
use Rattle.agree.proofs.Agree.{tagged-silent, tagged-message, lowest-silent, lowest-message, typed, low_is, low_first, forward, backward}
use Rattle.first_step.proofs.SeekLaws.{step_of}
use Rattle.paper.specs.Order.{Found, none, found, is_wait, first}
use Rattle.paper.proofs.OrderLaws.{message-waits}
use Rattle.claims.specs.FirstStep.{EarlierMessage, no_message, lower_type, lower_source, Earlier, lower_board, lower_rule, message, FirstAgreed}
use Rattle.claims.proofs.FirstStep.{clash, silent-is, first_possible}

neither : (a b : ℕ) → (a < b → ⊥) → (b < a → ⊥) → a ≡ b
neither a b f g = go (dec_lt a b) (dec_lt b a)
  where
    go : Dec (a < b) → Dec (b < a) → a ≡ b
    go (yes l) x = absurd (f l)
    go (no m) (yes l) = absurd (g l)
    go (no m) (no n) = omega arith

along : {u x : Step} (t : Step) → u ≡ x → (Earlier u t → ⊥) → Earlier x t → ⊥
along t e f = subst (λ (y : Step). Earlier y t → ⊥) e f

-- ---- two steps, of which neither with another source comes before the other
module _ (s t : Step) (x y : ℕ) (f : Earlier (with_source s x) t → ⊥) (g : Earlier (with_source t y) s → ⊥) where
  same-board : s.board ≡ t.board
  same-board = neither _ _ (λ l. f (lower_board l)) (λ l. g (lower_board l))

  same-rule : s.rule ≡ t.rule
  same-rule = neither _ _ (λ l. f (lower_rule same-board l)) (λ l. g (lower_rule (sym same-board) l))

  not_before : EarlierMessage (with_source s x) t → ⊥
  not_before e = f (message same-board same-rule e)

  not_after : EarlierMessage (with_source t y) s → ⊥
  not_after e = g (message (sym same-board) (sym same-rule) e)

-- an accepted step with a message is none of stopping
pub heard_by : (k : ℕ) (d : Design) (w : List ℕ) (s : Step) → silent s ≡ false → step_fault k d w s ≡ 0 → Arrives k d w s
heard_by k d w s e z = (accepted k d w s (ruled k d w s (loud_rule k d w s e z) z).1).arrives

module _ (j : ℕ) (d : Design) (K : Remembers d) (few : d.rules ≤ stop_rule) (w v : List ℕ) (X : Pictured j d w v) where
  -- ---- the first steps of the two forms are translations of each other
  module _ (s t : Step) (a : step_fault j d w s ≡ 0) (b : step_fault (suc j) d v t ≡ 0) where
    both_silent : silent s ≡ true → silent t ≡ true → (Earlier s t → ⊥) → (Earlier t s → ⊥) → s ≡ t
    both_silent e h f g =
        sym (silent-is s e) ∙ ap₂ (λ (p r : ℕ). step_of p r 255 255) (same-board s t s.source t.source f g) (same-rule s t s.source t.source f g) ∙ silent-is t h

    both_messages : silent s ≡ false → silent t ≡ false → (Earlier (with_source s (tag_of j d.boards s.source)) t → ⊥) → (Earlier (with_source t (low_sender j d w t)) s → ⊥)
        → s ≡ with_source t (low_sender j d w t)
    both_messages e h f g =
        let x = tag_of j d.boards s.source in
        let y = low_sender j d w t in
        let A = heard_by j d w s e a in
        let B = heard_by (suc j) d v t h b in
        let n = typed d.types s x K.few (A.named e).type in
        let o = typed d.types t y K.few (B.named h).type in
        let p = same-board s t x y f g in
        let r = same-rule s t x y f g in
        let m : s.type ≡ t.type = neither _ _ (λ l. not_before s t x y f g (lower_type n h l)) (λ l. not_after s t x y f g (lower_type o e l)) in
        let S = low_is j d K w v X t B h in
        let tag : x ≡ t.source = neither _ _ (λ l. not_before s t x y f g (lower_source n h m l)) (λ l. above l S.tags (λ u. not_after s t x y f g (lower_source o e (sym m) u))) in
        let moving = sym (λ i. (column_of j d).in_transit s.source (rcvd_in j d w (p i) (m i)) (sent_in j d w (m i))) ∙ A.transit e in
        let q : s.source ≡ y = neither _ _ (λ l. low_first j d K w v X t s.source l tag moving) (λ l. not_after s t x y f g (lower_source o e (sym m) l)) in
        λ i. record { board = p i; rule = r i; type = m i; source = q i }
      where
        -- the tag of who is not above the lowest sender is not above its tag
        above : t.source < tag_of j d.boards s.source → tag_of j d.boards (low_sender j d w t) ≡ t.source → (low_sender j d w t < s.source → ⊥) → ⊥
        above l z u = omega (arith, (picture_laws d.boards d.faulty j).grows s.source (low_sender j d w t) (omega arith))

    same : (Earlier (tagged j d s) t → ⊥) → (Earlier (lowest j d w t) s → ⊥) → s ≡ lowest j d w t
    same f g = go (silent s) (silent t) refl refl
      where
        go : (x y : Bool) → silent s ≡ x → silent t ≡ y → s ≡ lowest j d w t
        go true true e h = both_silent e h (along t (tagged-silent j d s e) f) (along s (lowest-silent j d t w h) g) ∙ sym (lowest-silent j d t w h)
        go true false e h = absurd (not_before s t _ _ (along t (tagged-silent j d s e) f) (along s (lowest-message j d t w h) g) (no_message e h))
        go false true e h = absurd (not_after s t _ _ (along t (tagged-message j d s e) f) (along s (lowest-silent j d t w h) g) (no_message h e))
        go false false e h = both_messages e h (along t (tagged-message j d s e) f) (along s (lowest-message j d t w h) g) ∙ sym (lowest-message j d t w h)

  -- ---- a translation of a wait is a wait, and of no other step
  wait_tagged : (s : Step) → step_fault j d w s ≡ 0 → is_wait d (tagged j d s) ≡ is_wait d s
  wait_tagged s z = go (silent s) refl
    where
      go : (b : Bool) → silent s ≡ b → is_wait d (tagged j d s) ≡ is_wait d s
      go true e = ap (is_wait d) (tagged-silent j d s e)
      go false e = ap (is_wait d) (tagged-message j d s e) ∙ message-waits d (with_source s (tag_of j d.boards s.source)) (typed d.types s (tag_of j d.boards s.source) K.few ((heard_by j d w s e z).named e).type) ∙ sym (message-waits d s e)

  wait_lowest : (t : Step) → step_fault (suc j) d v t ≡ 0 → is_wait d (lowest j d w t) ≡ is_wait d t
  wait_lowest t z = go (silent t) refl
    where
      go : (b : Bool) → silent t ≡ b → is_wait d (lowest j d w t) ≡ is_wait d t
      go true e = ap (is_wait d) (lowest-silent j d t w e)
      go false e = ap (is_wait d) (lowest-message j d t w e) ∙ message-waits d (with_source t (low_sender j d w t)) (typed d.types t (low_sender j d w t) K.few ((heard_by (suc j) d v t e z).named e).type) ∙ sym (message-waits d t e)

  -- and of a stop a stop
  stop-tagged : (s : Step) → is_stop (tagged j d s) ≡ is_stop s
  stop-tagged s = go (silent s) refl
    where
      go : (b : Bool) → silent s ≡ b → is_stop (tagged j d s) ≡ is_stop s
      go true e = ap is_stop (tagged-silent j d s e)
      go false e = ap is_stop (tagged-message j d s e)

  stop-lowest : (t : Step) → is_stop (lowest j d w t) ≡ is_stop t
  stop-lowest t = go (silent t) refl
    where
      go : (b : Bool) → silent t ≡ b → is_stop (lowest j d w t) ≡ is_stop t
      go true e = ap is_stop (lowest-silent j d t w e)
      go false e = ap is_stop (lowest-message j d t w e)

  both_found : (s t : Step) → first j d w ≡ found s → first (suc j) d v ≡ found t → s ≡ lowest j d w t
  both_found s t h k =
      let F = first_possible j d w few in
      let G = first_possible (suc j) d v few in
      let a = F.accepted s h in
      let b = G.accepted t k in
      same s t a b
      (λ l. true≢false (sym (G.earliest t k (tagged j d s) l (forward j d K w v X s a).accepted (stop-tagged s ∙ F.no_stop s h)) ∙ wait_tagged s a ∙ F.no_wait s h))
      (λ l. true≢false (sym (F.earliest s h (lowest j d w t) l (backward j d K w v X t b).accepted (stop-lowest t ∙ G.no_stop t k)) ∙ wait_lowest t b ∙ G.no_wait t k))

  -- where one form has a step, the other has one
  none_there : first j d w ≡ none → first (suc j) d v ≡ none
  none_there h = (first_possible (suc j) d v few).nothing_else (λ t b o. sym (wait_lowest t b) ∙ (first_possible j d w few).none_possible h (lowest j d w t) (backward j d K w v X t b).accepted (stop-lowest t ∙ o))

  none_back : first (suc j) d v ≡ none → first j d w ≡ none
  none_back h = (first_possible j d w few).nothing_else (λ s a o. sym (wait_tagged s a) ∙ (first_possible (suc j) d v few).none_possible h (tagged j d s) (forward j d K w v X s a).accepted (stop-tagged s ∙ o))

  there : (s : Step) → first j d w ≡ found s → first (suc j) d v ≡ found (tagged j d s)
  there s h = go (first (suc j) d v) refl
    where
      go : (x : Found) → first (suc j) d v ≡ x → first (suc j) d v ≡ found (tagged j d s)
      go none e = clash s (sym (none_back e) ∙ h)
      go (found t) e = e ∙ ap found (sym (ap (tagged j d) (both_found s t h e) ∙ (backward j d K w v X t ((first_possible (suc j) d v few).accepted t e)).trip))

  back : (t : Step) → first (suc j) d v ≡ found t → first j d w ≡ found (lowest j d w t)
  back t h = go (first j d w) refl
    where
      go : (x : Found) → first j d w ≡ x → first j d w ≡ found (lowest j d w t)
      go none e = clash t (sym (none_there e) ∙ h)
      go (found s) e = e ∙ ap found (both_found s t e h)

  pub first_agreed : FirstAgreed j d w v
  first_agreed = record { there = there; back = back; none_there = none_there; none_back = none_back }
