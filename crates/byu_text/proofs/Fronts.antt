-- Texts that begin with lines of a valid mesh's text.
use Rattle.std.proofs.Common.{◌≡◌, ℕ, ◌+◌, ◌<◌, ◌≤◌, ◌⊎◌, inl, inr, List, [], ◌++◌, length, take, drop, refl, sym, ap, ◌∙◌, arith, append_assoc, subst}
use Rattle.std.specs.List.{concat, AllByRecursion}
use Rattle.std.proofs.lemmas.List.{append-nil, length-append, length-take, take-take, take_at, take-append-drop}
use Rattle.std.proofs.lemmas.Bool.{cases_lt}
use Rattle.std.proofs.lemmas.List.Folds.{concat-append}
use Rattle.fku_types.proofs.ListLaws.{all_front}
use Rattle.triangle_meshes.specs.Meshes.{Surface}
use Rattle.byu_text.specs.Byu.{byu_of}
use Rattle.byu_text.specs.Lines.{text_lines_of}
use Rattle.byu_text.specs.Reading.{IsMesh, ReadsAsMesh, BeginsAs, HasMeshFault}
use Rattle.byu_text.proofs.TextLines.{IsLine, lines_first, concat-lines}
use Rattle.byu_text.proofs.Written.{surface_lines, written, mesh_lines_are}

-- the text begins with the first n lines of this valid mesh's text
pub record StartsAs (text : List ℕ) (n : ℕ) (s : Surface) : Type 0 where
  pub mesh : IsMesh s
  pub fits : n ≤ length (surface_lines s)
  pub more : List ℕ
  pub is : text ≡ concat (take n (surface_lines s)) ++ more

pub mesh_text_lines : (s : Surface) → IsMesh s → text_lines_of (byu_of s) ≡ surface_lines s
mesh_text_lines s m =
    ap text_lines_of (written s ∙ sym (append-nil (concat (surface_lines s))))
    ∙ lines_first (surface_lines s) [] (mesh_lines_are s m) ∙ append-nil (surface_lines s)

concat_split : (n : ℕ) (ls : List (List ℕ)) → concat ls ≡ concat (take n ls) ++ concat (drop n ls)
concat_split n ls = ap concat (sym (take-append-drop n ls)) ∙ concat-append (take n ls) (drop n ls)

pub starts_from_begins : (text : List ℕ) (n : ℕ) (s : Surface) → n ≤ length (text_lines_of text) → BeginsAs text n s
    → StartsAs text n s
starts_from_begins text n s l b =
    let same : take n (text_lines_of text) ≡ take n (surface_lines s) = b.same
    ∙ ap (take n) (mesh_text_lines s b.mesh) in
    record {
      mesh = b.mesh;
      fits = omega (arith, ap length same, length-take n (text_lines_of text), length-take n (surface_lines s));
      more = concat (drop n (text_lines_of text));
      is = sym (concat-lines text) ∙ concat_split n (text_lines_of text)
          ∙ ap (λ (l : List (List ℕ)). concat l ++ concat (drop n (text_lines_of text))) same;
    }

lines_from_starts : (text : List ℕ) (n : ℕ) (s : Surface) (t : StartsAs text n s)
    → text_lines_of text ≡ take n (surface_lines s) ++ text_lines_of t.more
lines_from_starts text n s t = ap text_lines_of t.is
    ∙ lines_first (take n (surface_lines s)) t.more
    (all_front IsLine (take n (surface_lines s)) (drop n (surface_lines s))
    (subst (AllByRecursion IsLine) (sym (take-append-drop n (surface_lines s))) (mesh_lines_are s t.mesh)))

pub begins_from_starts : (text : List ℕ) (n : ℕ) (s : Surface) → StartsAs text n s → BeginsAs text n s
begins_from_starts text n s t = record {
  mesh = t.mesh;
  same = ap (take n) (lines_from_starts text n s t)
      ∙ take_at (take n (surface_lines s)) (text_lines_of t.more) n
      (omega (arith, length-take n (surface_lines s), t.fits))
      ∙ ap (take n) (sym (mesh_text_lines s t.mesh));
}

pub has_lines : (text : List ℕ) (n : ℕ) (s : Surface) → StartsAs text n s → n ≤ length (text_lines_of text)
has_lines text n s t = omega (
  arith,
  ap length (lines_from_starts text n s t),
  length-append (take n (surface_lines s)) (text_lines_of t.more),
  length-take n (surface_lines s),
  t.fits,
)

pub starts_less : (text : List ℕ) (k n : ℕ) (s : Surface) → k ≤ n → StartsAs text n s → StartsAs text k s
starts_less text k n s l t =
    let front : List (List ℕ) = take n (surface_lines s) in
    record {
      mesh = t.mesh;
      fits = omega (arith, t.fits);
      more = concat (drop k front) ++ t.more;
      is = t.is ∙ ap (λ (x : List ℕ). x ++ t.more) (concat_split k front)
          ∙ append_assoc (concat (take k front)) (concat (drop k front)) t.more
          ∙ ap (λ (x : List (List ℕ)). concat x ++ (concat (drop k front) ++ t.more))
          (take-take k n (surface_lines s) l);
    }

pub starts_whole : (text : List ℕ) (n : ℕ) (s : Surface) → n ≤ length (surface_lines s) → ReadsAsMesh text s
    → StartsAs text n s
starts_whole text n s l r = record {
  mesh = r.mesh;
  fits = l;
  more = concat (drop n (surface_lines s));
  is = r.same ∙ written s
      ∙ concat_split n (surface_lines s);
}

-- lines that a mesh's text begins with, at the beginning of another text
pub starts_at : (text : List ℕ) (done more : List (List ℕ)) (rest : List ℕ) (s : Surface) → IsMesh s
    → surface_lines s ≡ done ++ more → text ≡ concat done ++ rest → StartsAs text (length done) s
starts_at text done more rest s m e t = record {
  mesh = m;
  fits = omega (arith, ap length e, length-append done more);
  more = rest;
  is = t ∙ ap (λ (x : List (List ℕ)). concat x ++ rest)
      (sym (ap (take (length done)) e ∙ take_at done more (length done) refl));
}

-- the text begins with n lines of a valid mesh's text, but not with n + 1, and is not such a text itself
pub fault_from : (text : List ℕ) (n : ℕ) (s : Surface) → StartsAs text n s
    → ((s : Surface) → StartsAs text (n + 1) s → ⊥) → ((s : Surface) → ReadsAsMesh text s → ⊥)
    → HasMeshFault text (n + 1)
fault_from text n s t none unread = by_lines (cases_lt n (length (text_lines_of text)))
  where
    earlier : (k : ℕ) → k < n + 1 → (s : Surface) × BeginsAs text k s
    earlier k l = (s, begins_from_starts text k s (starts_less text k n s (omega arith) t))

    by_lines : (n < length (text_lines_of text)) ⊎ (length (text_lines_of text) ≤ n) → HasMeshFault text (n + 1)
    by_lines (inl l) = inl (record {
      line = omega arith;
      before = earlier;
      none =
          λ r b. none r (starts_from_begins text (n + 1) r (omega arith) b);
    })
    by_lines (inr l) = inr (record { past = omega (arith, has_lines text n s t); before = earlier; none = unread })

-- ---- the result is unique

pub begins_from_reads : (text : List ℕ) (n : ℕ) (s : Surface) → ReadsAsMesh text s → BeginsAs text n s
begins_from_reads text n s r = record { mesh = r.mesh; same = ap (λ (x : List ℕ). take n (text_lines_of x)) r.same }

pub no_fault : (text : List ℕ) (n : ℕ) (s : Surface) → ReadsAsMesh text s → HasMeshFault text n → ⊥
no_fault text n s r (inl f) = f.none s (begins_from_reads text n s r)
no_fault text n s r (inr f) = f.none s r

pub one_fault : (text : List ℕ) (m n : ℕ) → HasMeshFault text m → HasMeshFault text n → m ≡ n
one_fault text m n (inl f) (inl g) = by_order (cases_lt m n) (cases_lt n m)
  where
    by_order : (m < n) ⊎ (n ≤ m) → (n < m) ⊎ (m ≤ n) → m ≡ n
    by_order (inl l) k = let b = g.before m l in absurd (f.none b.0 b.1)
    by_order (inr l) (inl k) = let b = f.before n k in absurd (g.none b.0 b.1)
    by_order (inr l) (inr k) = omega arith
one_fault text m n (inl f) (inr g) = let l = f.line in let p = g.past in let b = g.before m (omega arith) in
    absurd (f.none b.0 b.1)
one_fault text m n (inr f) (inl g) = let l = g.line in let p = f.past in let b = f.before n (omega arith) in
    absurd (g.none b.0 b.1)
one_fault text m n (inr f) (inr g) = f.past ∙ sym g.past
