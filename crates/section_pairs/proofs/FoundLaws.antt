-- The fault that is found in sections is determined, and sections with pairs have none.
use Rattle.std.proofs.Common.{◌≡◌, inl, inr, ℕ, List, map, length, refl, sym, ◌∙◌, subst, arith}
use Rattle.std.specs.Prelude.{All}
use Rattle.fku_types.specs.declared.fault.Fault.{Fault}
use Rattle.fku_types.specs.declared.fault.Fault.TheVariants as fault
use Rattle.fku_types.specs.declared.fault.LinkCause.{LinkCause}
use Rattle.section_core.specs.Parts.{Parts}
use Rattle.section_core.specs.ValidSections.{section_of}
use Rattle.section_core.specs.Flat.{SectionData}
use Rattle.correspondence.specs.Simple.{AgainstRule}
use Rattle.correspondence.specs.Apart.{ContoursTouch}
use Rattle.correspondence.specs.Components.{Members}
use Rattle.correspondence.specs.Links.{IsFirstBad}
use Rattle.section_pairs.specs.Pairs.{PairParts, AreGaps, IsShort, sides_from}
use Rattle.section_pairs.specs.SectionFaults.{IsFirstFault, data_contours, outlines_in, IsSimpleContour, HasSelfCrossing, IsApartSection, HasCrossing, AreSound, IsContourFault, HasLongSide, IsSideFault, IsFound, ArePairs}
use Rattle.section_pairs.proofs.FirstLaws.{pair_not_none, pair_one, Excludes, HasOne, first_not_all, first_one}
use Rattle.section_pairs.proofs.PairLaws.{one_gaps}
use Rattle.correspondence.proofs.LinkLaws.{good_or_bad, one_bad}

-- a contour that is not simple
simple_excludes : Excludes IsSimpleContour HasSelfCrossing
simple_excludes c (fault.SelfCrossing n e f) s h = pair_not_none (AgainstRule c.1) (length c.1) e f s h.1
simple_excludes c _ s h = absurd h

one_self_crossing : HasOne HasSelfCrossing
one_self_crossing c (fault.SelfCrossing n e f) (fault.SelfCrossing m g h) p q =
    let same = pair_one (AgainstRule c.1) (length c.1) e f g h p.1 q.1 in
    let name : n ≡ m = p.0 ∙ sym q.0 in
    rw (name, same.0, same.1) refl
one_self_crossing c (fault.SelfCrossing n e f) _ p q = absurd q
one_self_crossing c _ _ p q = absurd p

-- a section whose contours are not apart
apart_excludes : Excludes IsApartSection HasCrossing
apart_excludes s (fault.Crossing one other) a h =
    pair_not_none (ContoursTouch (outlines_in s)) (length (outlines_in s)) h.i h.j a h.pair
apart_excludes s _ a h = absurd h

one_crossing : HasOne HasCrossing
one_crossing s (fault.Crossing a b) (fault.Crossing c d) p q =
    let same = pair_one (ContoursTouch (outlines_in s)) (length (outlines_in s)) p.i p.j q.i q.j p.pair q.pair in
    let first : a ≡ c = p.first ∙ rw same.0 (sym q.first) in
    let second : b ≡ d = p.second ∙ rw same.1 (sym q.second) in
    rw (first, second) refl
one_crossing s (fault.Crossing a b) _ p q = absurd q
one_crossing s _ _ p q = absurd p

-- a composite that is too long
short_excludes : Excludes IsShort HasLongSide
short_excludes side (fault.Composite section count) s h = omega (arith, s, h.1, h.2)
short_excludes side _ s h = absurd h

one_long_side : HasOne HasLongSide
one_long_side side (fault.Composite section count) (fault.Composite other number) p q =
    let same : section ≡ other = p.0 ∙ sym q.0 in
    let size : count ≡ number = p.1 ∙ sym q.1 in
    rw (same, size) refl
one_long_side side (fault.Composite section count) _ p q = absurd q
one_long_side side _ _ p q = absurd p

-- sound contours and sections have no fault
contours_not_sound : (sections : List SectionData) (f : Fault) → AreSound sections → IsContourFault sections f → ⊥
contours_not_sound sections f s (inl h) =
    first_not_all IsSimpleContour HasSelfCrossing simple_excludes (data_contours sections) f s.simple h
contours_not_sound sections f s (inr h) =
    first_not_all IsApartSection HasCrossing apart_excludes sections f s.apart h.first

one_contour_fault : (sections : List SectionData) (f g : Fault) → IsContourFault sections f → IsContourFault sections g
    → f ≡ g
one_contour_fault sections f g (inl h) (inl k) =
    first_one IsSimpleContour HasSelfCrossing simple_excludes one_self_crossing (data_contours sections) f g h k
one_contour_fault sections f g (inl h) (inr k) =
    absurd (first_not_all IsSimpleContour HasSelfCrossing simple_excludes (data_contours sections) f k.simple h)
one_contour_fault sections f g (inr h) (inl k) =
    absurd (first_not_all IsSimpleContour HasSelfCrossing simple_excludes (data_contours sections) g h.simple k)
one_contour_fault sections f g (inr h) (inr k) =
    first_one IsApartSection HasCrossing apart_excludes one_crossing sections f g h.first k.first

-- short composites have no fault
sides_not_short : (S : Parts) (gaps : List (List Members)) (f : Fault) → AreGaps S gaps
    → All IsShort (sides_from S 0 gaps) → IsSideFault S f → ⊥
sides_not_short S gaps f g short h =
    let P : List (List Members) → Type 0 = λ gs. All IsShort (sides_from S 0 gs) in
    first_not_all IsShort HasLongSide short_excludes (sides_from S 0 h.gaps) f
    (subst P (one_gaps S gaps h.gaps g h.are_gaps) short) h.first

one_side_fault : (S : Parts) (f g : Fault) → IsSideFault S f → IsSideFault S g → f ≡ g
one_side_fault S f g h k =
    let P : List (List Members) → Type 0 = λ gs. IsFirstFault IsShort HasLongSide (sides_from S 0 gs) f in
    first_one IsShort HasLongSide short_excludes one_long_side (sides_from S 0 k.gaps) f g
    (subst P (one_gaps S h.gaps k.gaps h.are_gaps k.are_gaps) h.first) k.first

-- the first bad link has one fault
one_link_fault : (S : Parts) (k n : ℕ) (below above low high : List ℕ) (cause why : LinkCause)
    → IsFirstBad S k below above cause → IsFirstBad S n low high why
    → fault.Link below above cause ≡ fault.Link low high why
one_link_fault S k n below above low high cause why p q =
    let same = one_bad S k n below above low high cause why p q in
    rw (same.0, same.1, same.2) refl

-- the fault that is found in sections is determined
pub one_found : (S : Parts) (f g : Fault) → IsFound S f → IsFound S g → f ≡ g
one_found S f g (IsFound.in_contours _ h) (IsFound.in_contours _ k) =
    one_contour_fault (map section_of S.sections) f g h k
one_found S f g (IsFound.in_contours _ h) (IsFound.in_links _ _ _ _ s _) =
    absurd (contours_not_sound (map section_of S.sections) f s h)
one_found S f g (IsFound.in_contours _ h) (IsFound.in_composites _ l _) =
    absurd (contours_not_sound (map section_of S.sections) f l.sound h)
one_found S f g (IsFound.in_links _ _ _ _ s _) (IsFound.in_contours _ k) =
    absurd (contours_not_sound (map section_of S.sections) g s k)
one_found S f g (IsFound.in_links b a c k _ p) (IsFound.in_links d e w n _ q) = one_link_fault S k n b a d e c w p q
one_found S f g (IsFound.in_links b a c k _ p) (IsFound.in_composites _ l _) = absurd (good_or_bad S k b a c l.links p)
one_found S f g (IsFound.in_composites _ l _) (IsFound.in_contours _ k) =
    absurd (contours_not_sound (map section_of S.sections) g l.sound k)
one_found S f g (IsFound.in_composites _ l _) (IsFound.in_links d e w n _ q) = absurd (good_or_bad S n d e w l.links q)
one_found S f g (IsFound.in_composites _ _ h) (IsFound.in_composites _ _ k) = one_side_fault S f g h k

-- if sections have pairs, no fault is found in them
pub paired_or_found : (S : Parts) (ps : List PairParts) (f : Fault) → ArePairs S ps → IsFound S f → ⊥
paired_or_found S ps f pairs (IsFound.in_contours _ h) =
    contours_not_sound (map section_of S.sections) f pairs.linked.sound h
paired_or_found S ps f pairs (IsFound.in_links b a c k _ p) = good_or_bad S k b a c pairs.linked.links p
paired_or_found S ps f pairs (IsFound.in_composites _ _ h) = sides_not_short S pairs.gaps f pairs.are_gaps pairs.short h
