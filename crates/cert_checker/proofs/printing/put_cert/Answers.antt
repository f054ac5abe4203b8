use Rattle.std.proofs.Common.{◌≡◌, ◌+◌, ◌*◌, ◌++◌, List, ℤ, map, ap, ◌∙◌}
use Rattle.std.specs.List.{flat_map}
use Rattle.std.proofs.lemmas.Result.{on_ok_weaker as on_ok}
use Rattle.strip_graph.specs.declared.tilings.Step.{Step}
use Rattle.text_io.specs.WordLists.{line_text}
use Rattle.cert_checker.specs.CertTexts.{word_line, row_line, rows_in, certificate_parts}
use Rattle.cert_checker.proofs.PrintedCerts.{text_parts}
use Rattle.cert_checker.proofs.printing.put_cert.Goals as goal

pub returns : goal.returns
returns c =
    let C = certificate_parts c.args.text.now in
    let n1 = c.put_head.new.out.items in
    let n2 = c.put_word.new.out.items in
    let n3 = c.put_rows.new.out.items in
    let e2 : n2 ≡ n1 ++ line_text (word_line C.word) = c.in_ok-put_word.ensures
    ∙ ap (λ (w : List Step). n1 ++ line_text (word_line w)) c.deref.ensures.value in
    let e3 : n3 ≡ n2 ++ flat_map line_text (map row_line (rows_in (C.head.cols + 1) (2 * C.head.rows) C.values)) =
    c.in_ok-put_rows.ensures ∙ ap (λ (v : List ℤ). n2
    ++ flat_map line_text (map row_line (rows_in (C.head.cols + 1) (2 * C.head.rows) v))) c.deref-2.ensures.value in
    on_ok c.put.result (λ e. text_parts C c.args.out.now.items n1 n2 n3 c.put.new.out.items c.in_ok-put_head.ensures e2
    e3 e) c.put.ensures
