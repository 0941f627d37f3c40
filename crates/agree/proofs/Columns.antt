-- The laws of each column and of each pair of neighbours. From sets to counts: what the counts of a set become when a sender is added,
-- and who is in transit at one level and at the other. From two counts to their sum the same, by arithmetic.
use mathlib.Core.Path.{◌≡◌, refl, sym, ap, ◌∙◌, subst}
use mathlib.Core.Bool.{Bool, true, false, not, ◌&&◌, or-false}
use Prim.Native.Nat.{ℕ, zero, suc, ◌+◌, ◌-◌, ◌≤◌, ◌<◌}
use native.Mathlib.Omega.{arith}
use native.Mathlib.Decide.{dec_lt}
use lib.Dec.{eqb}
use borrow.Author.Tests.{ltb-true, ltb-false, eqb-true, lt-ltb, le-ltb, le-leb, lt-leb, eq-eqb}
use Rattle.senders.specs.Tally.{count, least}
use Rattle.senders.specs.Set.{mem, insert, missing, correct_count, faulty_count}
use Rattle.senders.proofs.TallyLaws.{and_both, and-made, count-at_most, count-le, count-gap, least-is}
use Rattle.senders.proofs.SetLaws.{set_laws, count_laws}
use Rattle.fault.specs.Fault.{◌if◌else◌}
use Rattle.fault.proofs.FaultLaws.{if_keeps}
use Rattle.fault.specs.Tests.{◌below◌}
use Rattle.paper.specs.Paper.{Counts, add_tag, passing, counting, plain, column}
use Rattle.paper.proofs.Cases.{same_or}
use Rattle.paper.proofs.FormLaws.{counts, transit-new}
use Rattle.agree.specs.Translation.{tag_of}
use Rattle.agree.specs.Picture.{picture, Within}
use Rattle.agree.specs.Laws.{ColumnLaws, Source, PictureLaws}

count-all : (k : ℕ) → count k (λ i. true) ≡ k
unfolding count
count-all zero = refl
count-all (suc k) = omega (arith, count-all k)

-- ---- tags
pub tag-correct : (C q : ℕ) → q < C → tag_of 0 C q ≡ 0
unfolding tag_of ◌if◌else◌
tag-correct C q h = rw (lt-ltb q C h)

pub tag-faulty : (C q : ℕ) → C ≤ q → tag_of 0 C q ≡ 1
unfolding tag_of ◌if◌else◌
tag-faulty C q h = rw (le-ltb q C h)

pub tag_only : (j C q : ℕ) → tag_of (suc j) C q ≡ 0
unfolding tag_of
tag_only j C q = refl

tag_class : (C q : ℕ) → tag_of 0 C q < 2
unfolding tag_of
tag_class C q = if_keeps (λ (x : ℕ). x < 2) 0 (q below C) 1 (λ e. omega arith) (λ e. omega arith)

tag-grows : (C q r : ℕ) → q ≤ r → tag_of 0 C q ≤ tag_of 0 C r
unfolding tag_of
tag-grows C q r h = if_keeps (λ (x : ℕ). x ≤ tag_of 0 C r) 0 (q below C) 1 (λ e. omega arith) (λ e. omega (arith, tag-faulty C r (omega (arith, ltb-false q C e))))

-- ---- in transit, in message form
module _ (C f q M S : ℕ) where
  pub transit-correct : q < C → (passing C f).in_transit q M S ≡ missing S M q
  transit-correct h = rw (lt-ltb q C h, lt-leb C q h, or-false)

  pub transit-faulty : C ≤ q → (passing C f).in_transit q M S ≡ not (mem M q)
  transit-faulty h = rw (le-ltb q C h, le-leb C q h)

  transit-sent : q < C → (passing C f).in_transit q M S ≡ true → mem S q ≡ true
  transit-sent h t = (and_both (mem S q) (not (mem M q)) (sym (transit-correct h) ∙ t)).0

-- ---- in transit, by count
-- a tag in transit leaves room for one more of its count
pub room-correct : (C f : ℕ) (c e : Counts) → (counting C f).in_transit 0 c e ≡ true → c.correct < e.correct
room-correct C f c e t = ltb-true _ _ (rw or-false at t)

room-faulty : (C f : ℕ) (c e : Counts) → (counting C f).in_transit 1 c e ≡ true → c.faulty < f
room-faulty C f c e t = ltb-true _ _ t

room-plain : (C f q c e : ℕ) → (plain C f).in_transit q c e ≡ true → c < e + f
room-plain C f q c e t = ltb-true _ _ (and_both (eqb q 0) (c below e + f) t).1

-- ---- the laws of one column
module _ (C f : ℕ) where
  set-hear : (q M S : ℕ) → q < C + f → (passing C f).in_transit q M S ≡ true → Within 0 C f M S → Within 0 C f (insert q M) S
  set-hear q M S h t W = (was_sent, known)
    where
      was_sent : (i : ℕ) → i < C → mem (insert q M) i ≡ true → mem S i ≡ true
      was_sent i l =
          same_or (λ (x : ℕ). x < C → mem (insert q M) x ≡ true → mem S x ≡ true) q i (λ k e. transit-sent C f q M S k t)
          (λ o k e. W.0 i k (sym (set_laws.insert_other M q i o) ∙ e)) l

      known : (i : ℕ) → C + f ≤ i → mem (insert q M) i ≡ false
      known i l = set_laws.insert_other M q i (omega arith) ∙ W.1 i l

  set-tell : (p M S : ℕ) → Within 0 C f M S → Within 0 C f M (insert p S)
  set-tell p M S W =
      (λ i l e. same_or (λ (x : ℕ). mem (insert p S) x ≡ true) p i (set_laws.insert_same S p) (λ o. set_laws.insert_other S p i o ∙ W.0 i l e), W.1)

  count-hear : (q : ℕ) (c e : Counts) → q < 2 → (counting C f).in_transit q c e ≡ true → Within 1 C f c e → Within 1 C f (add_tag q c) e
  count-hear zero c e h t W = (room-correct C f c e t, W.1, W.2)
  count-hear (suc zero) c e h t W = (W.0, omega (arith, room-faulty C f c e t), W.2)
  count-hear (suc (suc q)) c e h t W = absurd (omega arith)

  pub column_laws : (k : ℕ) → ColumnLaws k C f
  column_laws zero = record {
    none = (λ q h e. e, λ q h. set_laws.empty q);
    hear = set-hear;
    tell = λ p M S h W. set-tell p M S W;
    fresh = transit-new C f;
    own = λ p h. omega arith;
  }
  column_laws (suc zero) = record {
    none = (omega arith, omega arith, refl);
    hear = count-hear;
    tell = λ p c e h W. (omega (arith, W.0), W.1, W.2);
    fresh = λ q c e t. tt;
    own = λ p h. omega arith;
  }
  column_laws (suc (suc k)) = record {
    none = omega arith;
    hear = λ q c e h t W. room-plain C f q c e t;
    tell = λ p c e h W. omega (arith, W);
    fresh = λ q c e t. tt;
    own = λ p h. omega arith;
  }

  -- ---- from sets to counts
  counted-add : (q M : ℕ) → q < C + f → mem M q ≡ false → picture 0 C f (insert q M) ≡ add_tag (tag_of 0 C q) (picture 0 C f M)
  counted-add q M h n = go (dec_lt q C)
    where
      faulty : (i : ℕ) → i < f → mem M (C + i) ≡ false → picture 0 C f (insert (C + i) M) ≡ add_tag 1 (picture 0 C f M)
      faulty i l o = let N = count_laws C f in counts (N.faulty_not_correct M i) (N.faulty_one_more M i l o)

      go : Dec (q < C) → picture 0 C f (insert q M) ≡ add_tag (tag_of 0 C q) (picture 0 C f M)
      go (yes l) = let N = count_laws C f in rw (tag-correct C q l) (counts (N.correct_one_more M q l n) (N.correct_not_faulty M q l))
      go (no l) =
          let e : C + (q - C) ≡ q = omega arith in
          rw (tag-faulty C q (omega arith))
          (subst (λ (x : ℕ). mem M x ≡ false → picture 0 C f (insert x M) ≡ add_tag 1 (picture 0 C f M)) e (faulty (q - C) (omega arith)) n)

  counted-there : (q M S : ℕ) → q < C + f → Within 0 C f M S → (passing C f).in_transit q M S ≡ true → (counting C f).in_transit (tag_of 0 C q) (picture 0 C f M) (picture 0 C f S) ≡ true
  counted-there q M S h W t = go (dec_lt q C)
    where
      new : mem M q ≡ false
      new = transit-new C f q M S t

      fewer : q < C → correct_count C M < correct_count C S
      fewer l = omega (arith, (count_laws C f).correct_one_more M q l new, count-le C (mem (insert q M)) (mem S) (set-hear q M S h t W).0)

      room : (i : ℕ) → i < f → mem M (C + i) ≡ false → faulty_count C f M < f
      room i l o = omega (arith, (count_laws C f).faulty_one_more M i l o, count-at_most f (λ j. mem (insert (C + i) M) (C + j)))

      go : Dec (q < C) → (counting C f).in_transit (tag_of 0 C q) (picture 0 C f M) (picture 0 C f S) ≡ true
      go (yes l) = rw (tag-correct C q l, or-false) (lt-ltb _ _ (fewer l))
      go (no l) =
          let e : C + (q - C) ≡ q = omega arith in
          rw (tag-faulty C q (omega arith)) (lt-ltb _ _ (room (q - C) (omega arith) (rw e new)))

  some_sender : (tag M S : ℕ) → tag < 2 → (counting C f).in_transit tag (picture 0 C f M) (picture 0 C f S) ≡ true → (q : ℕ) × Source 0 C f tag M S q
  some_sender zero M S h t =
      let g = count-gap C (mem M) (mem S) (room-correct C f (picture 0 C f M) (picture 0 C f S) t) in (
        g.at,
        record {
          below = omega (arith, g.below);
          moving = transit-correct C f g.at M S g.below ∙ and-made _ _ g.has (ap not g.lacks);
          tags = tag-correct C g.at g.below;
        },
      )
  some_sender (suc zero) M S h t =
      let l = room-faulty C f (picture 0 C f M) (picture 0 C f S) t in
      let g = count-gap f (λ i. mem M (C + i)) (λ i. true) (omega (arith, l, count-all f)) in
      let b : C ≤ C + g.at = omega arith in (
        C + g.at,
        record {
          below = omega (arith, g.below);
          moving = transit-faulty C f (C + g.at) M S b ∙ ap not g.lacks;
          tags = tag-faulty C (C + g.at) b;
        },
      )
  some_sender (suc (suc tag)) M S h t = absurd (omega arith)

  -- ---- from two counts to their sum
  sum_there : (q : ℕ) (c e : Counts) → q < 2 → Within 1 C f c e → (counting C f).in_transit q c e ≡ true → c.correct + c.faulty < e.correct + e.faulty + f
  sum_there zero c e h W t = omega (arith, room-correct C f c e t, W.1)
  sum_there (suc zero) c e h W t = omega (arith, room-faulty C f c e t, W.0)
  sum_there (suc (suc q)) c e h W t = absurd (omega arith)

  sum_add : (q : ℕ) (c : Counts) → (add_tag q c).correct + (add_tag q c).faulty ≡ suc (c.correct + c.faulty)
  sum_add zero c = omega arith
  sum_add (suc q) c = omega arith

  -- the correct tag where that is in transit, otherwise the faulty one
  some_tag : (tag : ℕ) (c e : Counts) → tag < 1 → Within 1 C f c e → (plain C f).in_transit tag (picture 1 C f c) (picture 1 C f e) ≡ true → (q : ℕ) × Source 1 C f tag c e q
  some_tag tag c e h W t = go (dec_lt c.correct e.correct)
    where
      only : (q : ℕ) → tag_of 1 C q ≡ tag
      only q = tag_only 0 C q ∙ omega arith

      go : Dec (c.correct < e.correct) → (q : ℕ) × Source 1 C f tag c e q
      go (yes l) = (0, record { below = omega arith; moving = rw or-false (lt-ltb _ _ l); tags = only 0 })
      go (no l) = (1, record { below = omega arith; moving = lt-ltb c.faulty f (omega (arith, room-plain C f tag (picture 1 C f c) (picture 1 C f e) t, W.2)); tags = only 1 })

  plain_made : (q c e : ℕ) → q ≡ 0 → c < e + f → (plain C f).in_transit q c e ≡ true
  plain_made q c e z l = and-made _ _ (eq-eqb q 0 z) (lt-ltb c (e + f) l)

  pub picture_laws : (j : ℕ) → PictureLaws j C f
  picture_laws zero = record {
    none = let N = count_laws C f in counts N.empty_correct N.empty_faulty;
    card = λ M. sym ((count_laws C f).add_up M);
    add = counted-add;
    below = tag_class C;
    grows = tag-grows C;
    own = tag-correct C;
    there = counted-there;
    back = λ tag M S h W t. some_sender tag M S h t;
  }
  picture_laws (suc zero) = record {
    none = refl;
    card = λ c. refl;
    add = λ q c h n. sum_add q c;
    below = λ q. omega (arith, tag_only 0 C q);
    grows = λ q r h. omega (arith, tag_only 0 C q);
    own = λ p h. tag_only 0 C 0;
    there = λ q c e h W t. plain_made (tag_of 1 C q) _ _ (tag_only 0 C q) (sum_there q c e h W t);
    back = some_tag;
  }
  picture_laws (suc (suc j)) = record {
    none = refl;
    card = λ c. refl;
    add = λ q c h n. refl;
    below = λ q. omega (arith, tag_only (suc j) C q);
    grows = λ q r h. omega (arith, tag_only (suc j) C q);
    own = λ p h. tag_only (suc j) C 0;
    there = λ q c e h W t. plain_made (tag_of (suc (suc j)) C q) c e (tag_only (suc j) C q) (room-plain C f q c e t);
    back = λ tag c e h W t. (tag, record { below = h; moving = t; tags = tag_only (suc j) C tag ∙ omega arith });
  }

-- ---- of a tag in transit the lowest source is found
module _ (j C f tag : ℕ) (M S : (column j C f).Coll) where
  abbrev pub of_tag : ℕ → Bool
  of_tag q = eqb (tag_of j C q) tag && (column j C f).in_transit q M S

  pub lowest-source : tag < (column (suc j) C f).sources → Within j C f M S → (column (suc j) C f).in_transit tag (picture j C f M) (picture j C f S) ≡ true
      → Source j C f tag M S (least (column j C f).sources of_tag)
  lowest-source h W t =
      let (q, o) = (picture_laws C f j).back tag M S h W t in
      let r = least-is (column j C f).sources of_tag q o.below (and-made _ _ (eq-eqb _ _ o.tags) o.moving) in
      let b = and_both _ _ r.passes in
      record { below = r.below; moving = b.1; tags = eqb-true _ _ b.0 }
