-- What a search tries stands in the order of the first-step question: board by board, rule by rule, turn by turn. So a schedule that comes before the one
-- that is found begins with an earlier try at the first step in which they differ, and such a one reaches no accepting state (`First`). And no try is a wait.
use mathlib.Core.Path.{◌≡◌, refl, sym, ap, ◌∙◌, subst}
use mathlib.Core.Bool.{Bool, true, false, and-false, true≢false}
use mathlib.Core.List.{List, [], ◌∷◌, ◌++◌}
use Prim.Native.Nat.{ℕ, zero, suc, ◌+◌, ◌≤◌, ◌<◌}
use native.Mathlib.Omega.{arith}
use lib.Dec.{eqb}
use lib.ListN.{length, take}
use Rattle.fault.specs.Fault.{◌if◌else◌}
use borrow.Author.Tests.{ne_eqb}
use Rattle.paper.specs.Paper.{Design, Step, alone, silent, kind_of, stop_rule}
use Rattle.stops.specs.Stops.{NoStops}
use Rattle.paper.specs.Step.{stepped}
use Rattle.paper.specs.Order.{is_wait}
use Rattle.paper.proofs.OrderLaws.{message-waits}
use Rattle.tries.specs.Tries.{each, of_type, silently, of_rule, of_board, all_tries, In, here, there}
use Rattle.search.specs.Found.{Reaches, First, last, step}
use Rattle.tries.proofs.TriedLaws.{in_right, tried}
use Rattle.search.proofs.First.{nobody}
use Rattle.search.proofs.None.{by_rule_lem, first-accepted, rest-reaches, reaches_first}
use Rattle.tries.proofs.PlaceLaws.{places-start}
use Rattle.tries.proofs.MemberLaws.{placed_rule}
use Rattle.claims.specs.FirstStep.{EarlierMessage, no_message, lower_type, lower_source, Earlier, lower_board, lower_rule, message}
use Rattle.claims.specs.Search.{Before, shorter, earlier, later, NoWaits}

-- ---- members
in_cons : {P : Type 0} (t x : Step) (xs : List Step) → In t (x ∷ xs) → (t ≡ x → P) → (In t xs → P) → P
in_cons t x xs here f g = f refl
in_cons t x xs (there i) f g = g i

in_one : (t x : Step) → In t (x ∷ []) → t ≡ x
in_one t x i = in_cons t x [] i (λ e. e) (λ j. absurd (nobody j))

in_either : {P : Type 0} (t : Step) (xs ys : List Step) → In t (xs ++ ys) → (In t xs → P) → (In t ys → P) → P
in_either t [] ys i f g = g i
in_either t (x ∷ xs) ys here f g = f here
in_either t (x ∷ xs) ys (there i) f g = in_either t xs ys i (λ j. f (there j)) g

-- a member of one of those from i on
record InOne (t : Step) (i : ℕ) (f : ℕ → List Step) : Type 0 where
  at : ℕ
  from : i ≤ at
  member : In t (f at)

in_each : (t : Step) (g i : ℕ) (f : ℕ → List Step) → In t (each g i f) → InOne t i f
unfolding each
in_each t zero i f h = absurd (nobody h)
in_each t (suc g) i f h =
    in_either t (f i) (each g (i + 1) f) h (λ a. record { at = i; from = omega arith; member = a })
    (λ b. let m = in_each t g (i + 1) f b in record { at = m.at; from = omega (arith, m.from); member = m.member })

-- of the tries of a rule with a message, of a rule, and of a board
record Heard (p r m : ℕ) (t : Step) : Type 0 where
  board : t.board ≡ p
  rule : t.rule ≡ r
  type : t.type ≡ m
  heard : silent t ≡ false

heard_by : (p r m q : ℕ) → eqb q 255 ≡ false → Heard p r m (record { board = p; rule = r; type = m; source = q })
heard_by p r m q e = record { board = refl; rule = refl; type = refl; heard = rw e (and-false (eqb m 255)) }

in_type : (p r m : ℕ) (t : Step) → In t (of_type p r m) → Heard p r m t
in_type p r m t i =
    in_cons t _ _ i (λ e. subst (Heard p r m) (sym e) (heard_by p r m 0 refl)) (λ j. subst (Heard p r m) (sym (in_one t _ j)) (heard_by p r m 1 refl))

module _ (d : Design) where
  -- without a message, and then the rule leads to another state; or with one
  in_silent : (p r : ℕ) (t : Step) → In t (silently d p r) → (t ≡ alone p r) × (eqb (d.from r) (d.to r) ≡ false)
  unfolding ◌if◌else◌
  in_silent p r t = go (eqb (d.from r) (d.to r)) refl
    where
      go : (b : Bool) → eqb (d.from r) (d.to r) ≡ b → In t ([] if b else (alone p r ∷ [])) → (t ≡ alone p r) × (eqb (d.from r) (d.to r) ≡ false)
      go true e i = absurd (nobody i)
      go false e i = (in_one t (alone p r) i, e)

  in_rule : {P : Type 0} (p r : ℕ) (t : Step) → In t (of_rule d p r) → (t ≡ alone p r → eqb (d.from r) (d.to r) ≡ false → P) → ((m : ℕ) → Heard p r m t → P) → P
  unfolding of_rule
  in_rule p r t h f g =
      in_either t (silently d p r) (each d.types 0 (of_type p r)) h (λ a. let s = in_silent p r t a in f s.0 s.1)
      (λ b. let m = in_each t d.types 0 (of_type p r) b in g m.at (in_type p r m.at t m.member))

  of_rule_lem : (p r : ℕ) (t : Step) → In t (of_rule d p r) → (t.board ≡ p) × (t.rule ≡ r)
  of_rule_lem p r t i = in_rule p r t i (λ e _. (ap (λ (s : Step). s.board) e, ap (λ (s : Step). s.rule) e)) (λ m H. (H.board, H.rule))

  of_board_lem : (p : ℕ) (t : Step) → In t (of_board d p) → t.board ≡ p
  unfolding of_board
  of_board_lem p t i = let m = in_each t d.rules 0 (of_rule d p) i in (of_rule_lem p m.at t m.member).0

  -- ---- no try is a wait
  rule_no_wait : (p r : ℕ) (t : Step) → In t (of_rule d p r) → is_wait d t ≡ false
  unfolding kind_of ◌if◌else◌
  rule_no_wait p r t i = in_rule p r t i (λ e f. ap (is_wait d) e ∙ f) (λ m H. message-waits d t H.heard)

  no_wait : (t : Step) → In t (all_tries d) → is_wait d t ≡ false
  unfolding all_tries of_board
  no_wait t i =
      let p = in_each t d.boards 0 (of_board d) i in
      let r = in_each t d.rules 0 (of_rule d p.at) p.member in
      rule_no_wait p.at r.at t r.member

-- ---- nothing in a list comes before what stands in front of it
data Ordered : List Step → Type 0 where
  none : Ordered []
  more : {s : Step} {ss : List Step} → ((t : Step) → In t ss → Earlier t s → ⊥) → Ordered ss → Ordered (s ∷ ss)

append-ordered : (xs ys : List Step) → Ordered xs → Ordered ys → ((s t : Step) → In s xs → In t ys → Earlier t s → ⊥) → Ordered (xs ++ ys)
append-ordered [] ys none O f = O
append-ordered (x ∷ xs) ys (more h N) O f =
    more (λ t i. in_either t xs ys i (h t) (f x t here)) (append-ordered xs ys N O (λ s t i j. f s t (there i) j))

each-ordered : (g i : ℕ) (f : ℕ → List Step) → ((j : ℕ) → Ordered (f j)) → ((j k : ℕ) (s t : Step) → j < k → In s (f j) → In t (f k) → Earlier t s → ⊥) → Ordered (each g i f)
unfolding each
each-ordered zero i f o h = none
each-ordered (suc g) i f o h =
    append-ordered (f i) (each g (i + 1) f) (o i) (each-ordered g (i + 1) f o h)
    (λ s t a b. let m = in_each t g (i + 1) f b in h i m.at s t (omega (arith, m.from)) a m.member)

behind : (before : List Step) (s : Step) (rest : List Step) → Ordered (before ++ (s ∷ rest)) → (t : Step) → In t rest → Earlier t s → ⊥
behind [] s rest (more h O) = h
behind (x ∷ before) s rest (more h O) = behind before s rest O

-- what an earlier step is not
not-board : (s t : Step) → s.board < t.board → Earlier t s → ⊥
not-board s t l (lower_board b) = omega arith
not-board s t l (lower_rule e b) = omega arith
not-board s t l (message e f g) = omega arith

not-rule : (s t : Step) → s.board ≡ t.board → s.rule < t.rule → Earlier t s → ⊥
not-rule s t e l (lower_board b) = omega arith
not-rule s t e l (lower_rule f b) = omega arith
not-rule s t e l (message f h g) = omega arith

not-message : (s t : Step) → s.board ≡ t.board → s.rule ≡ t.rule → (EarlierMessage t s → ⊥) → Earlier t s → ⊥
not-message s t e f n (lower_board b) = omega arith
not-message s t e f n (lower_rule g b) = omega arith
not-message s t e f n (message g h m) = n m

not-type : (s t : Step) → silent t ≡ false → s.type < t.type → EarlierMessage t s → ⊥
not-type s t h l (no_message a b) = true≢false (sym a ∙ h)
not-type s t h l (lower_type a b g) = omega arith
not-type s t h l (lower_source a b e g) = omega arith

not-silent : (s t : Step) → silent s ≡ true → silent t ≡ false → EarlierMessage t s → ⊥
not-silent s t e h (no_message a b) = true≢false (sym a ∙ h)
not-silent s t e h (lower_type a b g) = true≢false (sym e ∙ b)
not-silent s t e h (lower_source a b f g) = true≢false (sym e ∙ b)

not-source : (s t : Step) → silent t ≡ false → s.type ≡ t.type → s.source ≤ t.source → EarlierMessage t s → ⊥
not-source s t h e l (no_message a b) = true≢false (sym a ∙ h)
not-source s t h e l (lower_type a b g) = omega arith
not-source s t h e l (lower_source a b f g) = omega arith

not_itself : (s : Step) → Earlier s s → ⊥
not_itself s = not-message s s refl refl own
  where
    own : EarlierMessage s s → ⊥
    own (no_message a b) = true≢false (sym a ∙ b)
    own (lower_type a b g) = omega arith
    own (lower_source a b f g) = omega arith

-- ---- turn by turn, rule by rule, board by board
type-ordered : (p r m : ℕ) → Ordered (of_type p r m)
type-ordered p r m = more second (more (λ t i. absurd (nobody i)) none)
  where
    second : (t : Step) → In t (record { board = p; rule = r; type = m; source = 1 } ∷ []) → Earlier t (record { board = p; rule = r; type = m; source = 0 }) → ⊥
    second t i b = not-message _ _ refl refl (not-source _ _ (heard_by p r m 1 refl).heard refl (omega arith)) (subst (λ (x : Step). Earlier x (record { board = p; rule = r; type = m; source = 0 })) (in_one t _ i) b)

module _ (d : Design) where
  silent-ordered : (p r : ℕ) → Ordered (silently d p r)
  unfolding ◌if◌else◌
  silent-ordered p r = go (eqb (d.from r) (d.to r))
    where
      go : (b : Bool) → Ordered ([] if b else (alone p r ∷ []))
      go true = none
      go false = more (λ t i. absurd (nobody i)) none

  rule-ordered : (p r : ℕ) → Ordered (of_rule d p r)
  unfolding of_rule
  rule-ordered p r =
      append-ordered (silently d p r) (each d.types 0 (of_type p r)) (silent-ordered p r) (each-ordered d.types 0 (of_type p r) (type-ordered p r) types)
      (λ s t i j. let e = (in_silent d p r s i).0 in let m = in_each t d.types 0 (of_type p r) j in
      let H = in_type p r m.at t m.member in
      not-message s t (ap (λ (x : Step). x.board) e ∙ sym H.board) (ap (λ (x : Step). x.rule) e ∙ sym H.rule) (not-silent s t (ap silent e) H.heard))
    where
      types : (j k : ℕ) (s t : Step) → j < k → In s (of_type p r j) → In t (of_type p r k) → Earlier t s → ⊥
      types j k s t l a b =
          let S = in_type p r j s a in
          let T = in_type p r k t b in
          not-message s t (S.board ∙ sym T.board) (S.rule ∙ sym T.rule) (not-type s t T.heard (omega (arith, S.type, T.type)))

  board-ordered : (p : ℕ) → Ordered (of_board d p)
  unfolding of_board
  board-ordered p =
      each-ordered d.rules 0 (of_rule d p) (rule-ordered p)
      (λ j k s t l a b. let S = of_rule_lem d p j s a in let T = of_rule_lem d p k t b in not-rule s t (S.0 ∙ sym T.0) (omega (arith, S.1, T.1)))

  ordered : Ordered (all_tries d)
  unfolding all_tries
  ordered = each-ordered d.boards 0 (of_board d) board-ordered (λ j k s t l a b. not-board s t (omega (arith, of_board_lem d j s a, of_board_lem d k t b)))

  -- ---- the first in the order
  pub first_no_waits : {k : ℕ} {w : List ℕ} {ss : List Step} → First d k w ss → NoWaits d ss
  first_no_waits last s i = absurd (nobody i)
  first_no_waits (step {w} {k} {s} {ss} before rest e f F) t here = no_wait d t (subst (In t) (sym e) (in_right before (t ∷ rest) here))
  first_no_waits (step {w} {k} {s} {ss} before rest e f F) t (there i) = first_no_waits F t i

  -- its rules are the design's, none of which is that of a stop
  pub first_no_stops : d.rules ≤ stop_rule → {k : ℕ} {w : List ℕ} {ss : List Step} → First d k w ss → NoStops ss
  first_no_stops few last = tt
  first_no_stops few (step {w} {k} {s} {ss} before rest e f F) =
      let l = placed_rule d 0 0 0 (subst (In s) (sym (places-start d ∙ e)) (in_right before (s ∷ rest) here)) in
      (ne_eqb s.rule stop_rule (λ z. omega (arith, few, l, z)), first_no_stops few F)

  pub none_before : (k : ℕ) (w : List ℕ) (ss ts : List Step) → First d k w ss → Reaches 1 d w ss → ((i : ℕ) → i < length ss → Reaches 1 d w (take i ss) → ⊥)
      → length ts ≤ k → NoWaits d ts → NoStops ts → Reaches 1 d w ts → Before ts ss → ⊥
  none_before k w [] ts F R short l n a T x8 = elim x8 [ ]
  none_before zero w (s ∷ ss) (t ∷ ts) F R short l n a T _ = elim F [ ]
  none_before k w (s ∷ ss) [] F R short l n a T shorter = short 0 (omega arith) T
  none_before (suc k) w (s ∷ ss) (t ∷ ts) (step before rest e f F) R short l n a T (earlier b) =
      let z = first-accepted d w t ts T in
      in_either t before (s ∷ rest) (subst (In t) e (tried d w t (by_rule_lem d w t a.0 z) (n t here))) (λ i. f t i ts (omega arith) T)
      (λ i. in_cons t s rest i (λ q. not_itself s (subst (λ (x : Step). Earlier x s) q b)) (λ j. behind before s rest (subst Ordered e ordered) t j b))
  none_before (suc k) w (s ∷ ss) (t ∷ ts) (step before rest e f F) R short l n a T (later b) =
      let z = first-accepted d w s ss R in
      none_before k (stepped 1 d w s) ss ts F (rest-reaches d w s ss z R) (λ i h Q. short (suc i) (omega arith) (reaches_first d w s (take i ss) z Q)) (omega arith) (λ x i. n x (there i)) a.1
      (rest-reaches d w s ts z T) b
