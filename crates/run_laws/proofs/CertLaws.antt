-- `certify` and `check` leave one reply each.
use Rattle.std.proofs.Common.{◌≡◌, ◌⊎◌, inl, inr, ℕ, zero, suc, ◌+◌, ◌*◌, ◌<◌, ℤ, pos, List, length, refl, sym, subst, ap, ◌∙◌, arith}
use Rattle.std.specs.Prelude.{slice_index_or, slice_get, All}
use Rattle.std.proofs.lemmas.List.{ext_get_or}
use Rattle.std.proofs.lemmas.Option.{same_Some, slice_get_within}
use Rattle.text_io.specs.Text.{lines}
use Rattle.text_io.specs.WordLists.{Kept}
use Rattle.fku_types.specs.declared.fault.Fault.{Fault}
use Rattle.fku_types.specs.declared.fault.Fault.TheVariants.{CertForm, NoPair}
use Rattle.section_core.specs.Parts.{FileParts}
use Rattle.strip_graph.specs.declared.tilings.Step.{Step}
use Rattle.strip_graph.specs.Strips.{Strip, rows, cols, arcs}
use Rattle.strip_graph.specs.Words.{word_cost}
use Rattle.strip_graph.specs.Tilings.{IsAcceptable}
use Rattle.strip_graph.specs.Certificates.{IsModest, StepHolds, TurnHolds, Certifies, value_at}
use Rattle.row_paths.specs.Solutions.{Solution, Solves}
use Rattle.row_paths.proofs.SolutionLaws.{solves_unique}
use Rattle.strip_potential.specs.Rows.{HasRows}
use Rattle.cert_checker.specs.declared.certs.CertText.{CertText}
use Rattle.cert_checker.specs.declared.certs.Verdict.{Verdict}
use Rattle.cert_checker.specs.declared.certs.Verdict.TheVariants.{Accept, Size, Word, Cost, Arc, Turn}
use Rattle.cert_checker.specs.CertTexts.{CertParts, cert_text, certificate_parts}
use Rattle.cert_checker.specs.CertReading.{ReadsAsCertificate, IsCertFault}
use Rattle.cert_checker.specs.Verdicts.{FitsPair, IsFirstStep, IsFirstRow, IsVerdict}
use Rattle.text_io.proofs.FormatLaws.{one_line_fault, no_line_fault}
use Rattle.cert_checker.proofs.TextLaws.{reads_one}
use Rattle.section_pairs.specs.Pairs.{PairParts}
use Rattle.command_replies.specs.Reply.{Reply, refused, fails, goes_on, NoFault}
use Rattle.pair_commands.specs.OnePair.{IsNoPair, IsPairOf, on_pair}
use Rattle.pair_commands.specs.Certify.{TellsCert, certificate, certify, on_solution}
use Rattle.pair_commands.specs.Check.{TellsVerdict, check, on_cert, verdict, verdict_text}
use Rattle.run_laws.proofs.ReplyLaws.{Agree, IsOne, IsToldFault, agree_tells, one_fronts, one_numbered, one_stage, one_then}

-- a number is that of one pair, or of none
pub same_pair : (ps : List PairParts) (j k : ℕ) (p q : PairParts) → j ≡ k → IsPairOf ps j p → IsPairOf ps k q → p ≡ q
same_pair ps j k p q e is has =
    let place : is.place ≡ has.place = omega (arith, e, is.counted, has.counted) in
    same_Some p q (sym is.there ∙ ap (slice_get ps) place ∙ has.there)

pub no_such : (ps : List PairParts) (j k : ℕ) (p : PairParts) (f : Fault) → j ≡ k → IsNoPair ps j f → IsPairOf ps k p
    → ⊥
no_such ps j k p f e none has = omega (arith, e, none.0, has.counted, slice_get_within ps has.place p has.there)

agree_pairs : (ps : List PairParts) (j k : ℕ) → j ≡ k → (R Q : PairParts → Reply → Type 0)
    → ((p : PairParts) → Agree (R p) (Q p)) → Agree (on_pair ps j R) (on_pair ps k Q)
agree_pairs ps j k e R Q agree r s t u (fails f h) (fails g m) = ap refused (h.1 ∙ ap (λ (n : ℕ). NoPair n) e ∙ sym m.1)
agree_pairs ps j k e R Q agree r s t u (fails f h) (goes_on q y has m) = absurd (no_such ps j k q f e h has)
agree_pairs ps j k e R Q agree r s t u (goes_on p x is h) (fails g m) = absurd (no_such ps k j p g (sym e) m is)
agree_pairs ps j k e R Q agree r s t u (goes_on p x is h) (goes_on q y has m) =
    agree p x y t u h (subst (λ (z : PairParts). Q z y) (sym (same_pair ps j k p q e is has)) m)

-- where rows of one width have a place
record Place (w k i : ℕ) : Type 0 where
  row : ℕ
  col : ℕ
  inside : row < k
  narrow : col < w
  at : row * w + col ≡ i

place_of : (w k i : ℕ) → i < k * w → Place w k i
place_of w zero i l = absurd (omega (arith, l))
place_of w (suc k) i l =
    elim (below i (k * w)) [
      | inl less ↦ let p = place_of w k i less in
          record { row = p.row; col = p.col; inside = omega (arith, p.inside); narrow = p.narrow; at = p.at }
      | inr more ↦ record { row = k; col = more.0; inside = omega arith; narrow = last more.0 more.1; at = sym more.1 }
    ]
  where
    below : (i n : ℕ) → (i < n) ⊎ ((d : ℕ) × (i ≡ n + d))
    below i zero = inr (i, omega arith)
    below zero (suc n) = inl (omega arith)
    below (suc i) (suc n) =
        elim (below i n) [
          | inl less ↦ inl (omega (arith, less))
          | inr more ↦ inr (more.0, omega (arith, more.1))
        ]

    more_rows : suc k * w ≡ k * w + w
    more_rows = omega arith

    last : (d : ℕ) → i ≡ k * w + d → d < w
    last d e = omega (arith, l, e, more_rows)

-- a strip has only one potential
same_values : (p : Strip) (k : ℕ) (xs ys : List ℤ) → HasRows p k xs → HasRows p k ys → xs ≡ ys
same_values p k xs ys h m =
    ext_get_or (pos 0) xs ys (h.count ∙ sym m.count)
    (λ i l.
    let a = place_of (cols p + 1) k i (omega (arith, l, h.count)) in
    let narrow : a.col < cols p + 1 = a.narrow in
    let same : value_at (cols p) xs a.row a.col ≡ value_at (cols p) ys a.row a.col =
    h.are a.row a.col a.inside (omega (arith, narrow)) ∙ sym (m.are a.row a.col a.inside (omega (arith, narrow))) in
    subst (λ (n : ℕ). slice_index_or xs n (pos 0) ≡ slice_index_or ys n (pos 0)) a.at same)

one_tells_cert : (k : ℕ) (p : Strip) (s : Solution) → IsOne (TellsCert k p s)
one_tells_cert k p s r q t u h m =
    agree_tells (cert_text (certificate k p s h.values)) (cert_text (certificate k p s m.values)) 1 1
    (ap (λ (values : List ℤ). cert_text (certificate k p s values))
    (same_values p (2 * rows p) h.values m.values h.potential m.potential)) refl r q t u h.tells m.tells

one_solution : (p : Strip) (rule : Solution → Reply → Type 0) → ((s : Solution) → IsOne (rule s))
    → IsOne (on_solution p rule)
one_solution p rule inner = one_stage NoFault (Solves p) rule (λ f g t u h k. absurd h) (λ x f t is h. h)
    (λ s t is has. solves_unique p s t is has) (λ s is. inner s)

pub one_certify : (k : ℕ) (F : FileParts) → IsOne (certify k F)
one_certify k F = one_numbered F _
    (λ ps. agree_pairs ps k k refl _ _
    (λ p. one_solution p.strip (TellsCert k p.strip) (λ s. one_tells_cert k p.strip s)))

-- a text of a certificate has one reading, or one fault
one_cert_fault : (tail : List Kept) (last : ℕ) (f g : Fault) → IsToldFault f → IsToldFault g → IsCertFault tail last f
    → IsCertFault tail last g → f ≡ g
one_cert_fault tail last f g t u h k = h.2 ∙ ap (λ (l : ℕ). CertForm l) (one_line_fault tail last h.0 k.0 h.1 k.1)
    ∙ sym k.2

pub cert_or_fault : (tail : List Kept) (last : ℕ) (C : CertParts) (f : Fault) → IsToldFault f
    → ReadsAsCertificate tail C → IsCertFault tail last f → ⊥
cert_or_fault tail last C f t is h = no_line_fault tail last h.0 C is h.1

one_certs : (last : ℕ) (tail : List Kept) (rule : CertText → Reply → Type 0)
    → ((c d : CertText) → certificate_parts c ≡ certificate_parts d → Agree (rule c) (rule d))
    → IsOne (on_cert last tail rule)
one_certs last tail rule agree =
    one_then (IsCertFault tail last) (λ c. ReadsAsCertificate tail (certificate_parts c)) rule
    (one_cert_fault tail last) (λ c. cert_or_fault tail last (certificate_parts c))
    (λ c d is has. agree c d (reads_one tail (certificate_parts c) (certificate_parts d) is has))

-- a verdict is one on the certificate as plain data
same_fits : (p : Strip) (c d : CertText) → certificate_parts c ≡ certificate_parts d → FitsPair p c.cert
    → FitsPair p d.cert
same_fits p c d e h = record {
  rows_same = subst (λ (C : CertParts). C.head.rows ≡ rows p) e h.rows_same;
  cols_same = subst (λ (C : CertParts). C.head.cols ≡ cols p) e h.cols_same;
  count = subst (λ (C : CertParts). length C.values ≡ 2 * rows p * (cols p + 1)) e h.count;
  cost_modest = subst (λ (C : CertParts). IsModest C.head.cost) e h.cost_modest;
  values_modest = subst (λ (C : CertParts). All IsModest C.values) e h.values_modest;
}

abbrev HasTiling : Strip → CertParts → Type 0
HasTiling p C = IsAcceptable (rows p) (cols p) C.head.start 0 C.word

abbrev HasCost : Strip → CertParts → Type 0
HasCost p C = C.head.cost ≡ pos (word_cost (arcs p) C.head.start 0 C.word)

abbrev ArcHolds : Strip → CertParts → ℕ → ℕ → Step → Type 0
ArcHolds p C i j s = StepHolds (arcs p) (rows p) (cols p) C.values i j s

abbrev Turns : Strip → CertParts → ℕ → Type 0
Turns p C = TurnHolds (rows p) (cols p) C.values C.head.cost

same_verdict : (p : Strip) (c d : CertText) → certificate_parts c ≡ certificate_parts d → (v : Verdict)
    → IsVerdict p c.cert v → IsVerdict p d.cert v
same_verdict p c d e Accept h = subst
    (λ (C : CertParts). Certifies (arcs p) (rows p) (cols p) C.head.rows C.head.cols C.head.cost C.head.start C.word
    C.values) e h
same_verdict p c d e Size h = λ f. h (same_fits p d c (sym e) f)
same_verdict p c d e Word h = (same_fits p c d e h.0, subst (λ (C : CertParts). HasTiling p C → ⊥) e h.1)
same_verdict p c d e Cost h = (
  same_fits p c d e h.0,
  subst (HasTiling p) e h.1,
  subst (λ (C : CertParts). HasCost p C → ⊥) e h.2,
)
same_verdict p c d e (Arc i j s) h = (
  same_fits p c d e h.0,
  subst (HasTiling p) e h.1,
  subst (HasCost p) e h.2,
  subst (λ (C : CertParts). IsFirstStep (ArcHolds p C) i j s) e h.3,
)
same_verdict p c d e (Turn i) h = (
  same_fits p c d e h.0,
  subst (HasTiling p) e h.1,
  subst (HasCost p) e h.2,
  subst (λ (C : CertParts). (i j : ℕ) (s : Step) → ArcHolds p C i j s) e h.3,
  subst (λ (C : CertParts). IsFirstRow (Turns p C) i) e h.4,
)

agree_verdicts : (p : Strip) (c d : CertText) → certificate_parts c ≡ certificate_parts d
    → Agree (TellsVerdict p c) (TellsVerdict p d)
agree_verdicts p c d e r s t u h k =
    let same : h.verdict ≡ k.verdict = k.only h.verdict (same_verdict p c d e h.verdict h.judges) in
    agree_tells (verdict_text c.pair c.cert.cost h.verdict) (verdict_text d.pair d.cert.cost k.verdict) 0 0
    (ap (λ (C : CertParts). verdict_text C.head.pair C.head.cost h.verdict) e
    ∙ ap (verdict_text d.pair d.cert.cost) same) refl r s t u h.tells k.tells

one_verdict : (last : ℕ) (F : FileParts) (tail : List Kept) → IsOne (verdict last F tail)
one_verdict last F tail =
    one_numbered F _ (λ ps. one_certs last tail _
    (λ c d e. agree_pairs ps c.pair d.pair (ap (λ (C : CertParts). C.head.pair) e) _ _
    (λ p. agree_verdicts p.strip c d e)))

pub one_check : (bytes : List ℕ) → IsOne (check bytes)
one_check bytes = one_fronts (verdict (length (lines bytes))) bytes (one_verdict (length (lines bytes)))
