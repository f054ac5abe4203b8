-- Equal points.
use Rattle.std.proofs.Common.{◌≡◌, ℕ, ℤ, ◌<◌, ◌&&◌, true, List, [], ◌∷◌, length, map, get_or, refl, sym, ap, ap₂, ◌∙◌, subst}
use Rattle.std.proofs.lemmas.List.{get_or-map}
use Rattle.std.specs.Ordering.{int_eq}
use Rattle.std.specs.Cmp.Lexicographic.{pointwise}
use Rattle.std.proofs.lemmas.Bool.{and_parts, and_from}
use Rattle.std.proofs.lemmas.Bool.Decides.{Decides-int_eq}
use Rattle.fku_types.specs.declared.points.Point.{Point}

point_same : (p q : Point) → (int_eq p.x q.x && (int_eq p.y q.y && int_eq p.z q.z)) ≡ true → p ≡ q
point_same p q e =
    let x = and_parts (int_eq p.x q.x) (int_eq p.y q.y && int_eq p.z q.z) e in
    let y = and_parts (int_eq p.y q.y) (int_eq p.z q.z) x.1 in
    ap₂ (λ (a b : ℤ). let r : Point = record { x = a; y = b; z = p.z } in r) ((Decides-int_eq p.x q.x).0 x.0)
    ((Decides-int_eq p.y q.y).0 y.0)
    ∙ ap (λ (a : ℤ). let r : Point = record { x = q.x; y = q.y; z = a } in r) ((Decides-int_eq p.z q.z).0 y.1)

-- points that are equal one by one are equal lists
pub points_same : (ps qs : List Point)
    → pointwise (λ (p q : Point). int_eq p.x q.x && (int_eq p.y q.y && int_eq p.z q.z)) ps qs ≡ true → ps ≡ qs
points_same [] [] e = refl
points_same [] (q ∷ qs) e = absurd cc
points_same (p ∷ ps) [] e = absurd cc
points_same (p ∷ ps) (q ∷ qs) e =
    let b = and_parts (int_eq p.x q.x && (int_eq p.y q.y && int_eq p.z q.z))
    (pointwise (λ (p q : Point). int_eq p.x q.x && (int_eq p.y q.y && int_eq p.z q.z)) ps qs) e in
    ap₂ (λ (r : Point) (rs : List Point). r ∷ rs) (point_same p q b.0) (points_same ps qs b.1)

-- and equal lists are equal one by one
pub same_points : (ps qs : List Point) → ps ≡ qs
    → pointwise (λ (p q : Point). int_eq p.x q.x && (int_eq p.y q.y && int_eq p.z q.z)) ps qs ≡ true
same_points ps qs e = subst (λ (rs : List Point).
    pointwise (λ (p q : Point). int_eq p.x q.x && (int_eq p.y q.y && int_eq p.z q.z)) ps rs ≡ true) e (each ps)
  where
    each : (rs : List Point) → pointwise (λ (p q : Point). int_eq p.x q.x && (int_eq p.y q.y && int_eq p.z q.z)) rs rs
        ≡ true
    each [] = refl
    each (r ∷ rs) =
        and_from _ _ (and_from _ _ ((Decides-int_eq r.x r.x).1 refl)
        (and_from _ _ ((Decides-int_eq r.y r.y).1 refl) ((Decides-int_eq r.z r.z).1 refl))) (each rs)

-- the image of an item, and equal images at a place
pub image_at : {X Y : Type 0} (g : X → Y) (xs : List X) (k : ℕ) (x : X) (d : Y) → k < length xs → x ≡ get_or xs k x
    → g x ≡ get_or (map g xs) k d
image_at g xs k x d l e = ap g e ∙ sym (get_or-map g xs k x d l)

pub images_at : {X Y : Type 0} (g : X → Y) (xs ys : List X) (k : ℕ) (x y : X) → map g xs ≡ map g ys → k < length xs
    → k < length ys → x ≡ get_or xs k x → y ≡ get_or ys k y → g x ≡ g y
images_at {Y = Y} g xs ys k x y e l m p q =
    image_at g xs k x (g x) l p ∙ ap (λ (zs : List Y). get_or zs k (g x)) e ∙ sym (image_at g ys k y (g x) m q)
