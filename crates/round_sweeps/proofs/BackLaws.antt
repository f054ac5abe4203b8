-- A column of a search back, row by row from the last one up.
use Rattle.std.proofs.Common.{true, false, ◌≡◌, ◌≢◌, ℕ, ◌+◌, ◌-◌, ◌*◌, ◌<◌, ◌≤◌, ◌⊎◌, ℤ, pos, neg_ℤ, ◌+ℤ◌, ◌≤ℤ◌, ◌<ℤ◌, Bool, List, length, length-set, set, drop, get_or-drop, ◌++◌, get_or-set_other, get_or-set_same, refl, sym, ap, ◌∙◌, subst, arith, inl, inr}
use Rattle.std.proofs.lemmas.Bool.{cases_lt, cases_eq}
use Rattle.std.proofs.lemmas.List.{get_or_append_left, get_or-append-add}
use Rattle.std.proofs.lemmas.Int.{ints}
use Rattle.round_sweeps.specs.Columns.{start_limit, value_limit, at_row, AreRowsBounded}
use Rattle.round_sweeps.specs.Searches.{gone, way_of, numbers_from, AreSumsOf, IsWindow, IsStepChosen, IsPlaceSearched, IsBackTo, IsBackColumn}
use Rattle.round_sweeps.proofs.ColumnLaws.{written, kept, replaced}
use Rattle.round_sweeps.proofs.RoundLaws.{row_low, row_high, row_higher}

-- no number of a potential is too small
pub number_least : (m : ℕ) (s : ℤ) (i : ℕ) (column : List ℤ) → i < m → AreRowsBounded m column → pos 0 ≤ℤ s → (k : ℕ)
    → k < 2 * m → neg_ℤ start_limit ≤ℤ numbers_from m s i column k
number_least m s i column lt b least k le =
    elim (cases_lt (i + k) m) [
      | inl low ↦ omega (arith, ints, row_low m s (at_row column) (i + k) low, b.least (i + k) low)
      | inr more ↦ elim (cases_lt (i + k) (2 * m)) [
        | inl high ↦ omega (
          arith,
          ints,
          row_high m s (at_row column) (i + k) more high,
          b.least (i + k - m) (omega (arith, high, more)),
          least,
        )
        | inr higher ↦ omega (
          arith,
          ints,
          row_higher m s (at_row column) (i + k) higher (omega (arith, lt, le)),
          b.least (i + k - 2 * m) (omega (arith, lt, le, higher)),
          least,
        )
      ]
    ]

-- what is known of all rows
pub record AreFit (m : ℕ) (limit : ℤ) (phi downs rights : ℕ → ℤ) : Type 0 where
  pub small : limit ≤ℤ value_limit
  pub numbers : (j : ℕ) → j ≤ m → neg_ℤ start_limit ≤ℤ phi j
  pub downs_least : (j : ℕ) → j < m → pos 0 ≤ℤ downs j
  pub rights_least : (j : ℕ) → j ≤ m → pos 0 ≤ℤ rights j

-- a number more in range
pub sums_more : (h : ℕ) (xs : List ℤ) (k : ℕ) (v : ℤ) → AreSumsOf h xs → k ≤ h → pos 0 ≤ℤ v → v ≤ℤ gone
    → AreSumsOf h (set xs k v)
sums_more h xs k v s le low high = record {
  count = length-set xs k v ∙ s.count;
  least = λ j in'. replaced (λ (x : ℤ). pos 0 ≤ℤ x) xs k j v within (λ _. low) (λ _. s.least j in');
  most = λ j in'. replaced (λ (x : ℤ). x ≤ℤ gone) xs k j v within (λ _. high) (λ _. s.most j in');
}
  where
    within : k < length xs
    within = omega (arith, le, s.count)

-- the step chosen at a place, from the last row of which H alone leads on
pub place_above : (m k : ℕ) (limit number by_v by_h sum : ℤ) (way : Bool) → k < m
    → IsStepChosen limit number by_v by_h sum way → pos 0 ≤ℤ sum → sum ≤ℤ gone
    → IsPlaceSearched m k limit number by_v by_h sum way
place_above m k limit number by_v by_h sum way lt s least most = record {
  down = λ _ le. s.v le;
  right = s.h;
  goes_down = λ le t. (lt, s.goes_down le t);
  goes_right = λ le f. (s.goes_right le f, λ _. s.dearer le f);
  least = least;
  most = most;
}

pub place_last : (m k : ℕ) (limit number by_v by_h sum : ℤ) (way : Bool) → m ≤ k
    → IsStepChosen limit number gone by_h sum way → neg_ℤ start_limit ≤ℤ number → limit ≤ℤ value_limit → pos 0 ≤ℤ sum
    → sum ≤ℤ gone → IsPlaceSearched m k limit number by_v by_h sum way
place_last m k limit number by_v by_h sum way ge s low small least most = record {
  down = λ lt. absurd (omega (arith, lt, ge));
  right = s.h;
  goes_down = λ le t. absurd (omega (arith, ints, s.goes_down le t, le, low, small));
  goes_right = λ le f. (s.goes_right le f, λ lt. absurd (omega (arith, lt, ge)));
  least = least;
  most = most;
}

-- rows k to m are done; `below` stands in the last one of them
pub record IsBackUntil (m k : ℕ) (limit : ℤ) (phi downs rights : ℕ → ℤ) (old new : List ℤ) (ways : List Bool)
    (below : ℤ) (first last : ℕ) : Type 0 where
  pub back : IsBackTo m k limit phi downs rights old new ways
  pub sums : AreSumsOf m new
  pub below_is : k ≤ m → below ≡ at_row new k
  pub below_gone : k ≡ m + 1 → below ≡ gone
  pub below_least : pos 0 ≤ℤ below
  pub below_most : below ≤ℤ gone
  pub last_in : last ≤ m
  pub outside : (j : ℕ) → k ≤ j → j ≤ m → (j < first) ⊎ (last < j) → at_row new j ≡ gone

pub back_none : (m : ℕ) (limit : ℤ) (phi downs rights : ℕ → ℤ) (old : List ℤ) (ways : List Bool) (first last : ℕ)
    → AreFit m limit phi downs rights → AreSumsOf m old → IsWindow m first last old
    → IsBackUntil m (last + 1) limit phi downs rights old old ways gone (m + 1) 0
back_none m limit phi downs rights old ways first last f s w = record {
  back = record {
    rest = λ j lt. refl;
    down = λ j le lt p. absurd (omega (
      arith,
      ints,
      p,
      f.small,
      f.numbers j (omega (arith, lt)),
      f.downs_least j lt,
      after (j + 1) (omega (arith, le)) (omega (arith, lt)),
    ));
    right = λ j le in' p. absurd (omega
        (arith, ints, p, f.small, f.numbers j in', f.rights_least j in', after j le in'));
    goes_down = λ j le in' p e. absurd (omega (arith, ints, p, f.small, f.numbers j in', after j le in'));
    goes_right = λ j le in' p e. absurd (omega (arith, ints, p, f.small, f.numbers j in', after j le in'));
  };
  sums = s;
  below_is = λ le. sym (after (last + 1) (omega arith) le);
  below_gone = λ e. refl;
  below_least = omega (arith, ints);
  below_most = omega (arith, ints);
  last_in = omega arith;
  outside = λ j le in' o. after j le in';
}
  where
    after : (j : ℕ) → last + 1 ≤ j → j ≤ m → at_row old j ≡ gone
    after j le in' = w.outside j in' (inr (omega (arith, le)))

pub back_more : (m row : ℕ) (limit : ℤ) (phi downs rights : ℕ → ℤ) (old new : List ℤ) (ways : List Bool) (below sum : ℤ)
    (way : Bool) (first last first' last' : ℕ)
    → IsBackUntil m (row + 1) limit phi downs rights old new ways below first last → row ≤ m → length ways ≡ m + 1
    → IsPlaceSearched m row limit (phi row) (downs row +ℤ below) (rights row +ℤ at_row new row) sum way
    → last' ≤ m → ((row < first') ⊎ (last' < row) → gone ≤ℤ sum)
    → ((k : ℕ) → row < k → k ≤ m → (k < first') ⊎ (last' < k) → (k < first) ⊎ (last < k))
    → IsBackUntil m row limit phi downs rights old (set new row sum) (set ways row way) sum first' last'
back_more m row limit phi downs rights old new ways below sum way first last first' last' h lt count place last_in here
    after = record {
      back = record {
        rest = λ j less. kept new row j sum (omega (arith, less)) ∙ h.back.rest j (omega (arith, less));
        down = down;
        right = right;
        goes_down = goes_down;
        goes_right = goes_right;
      };
      sums = sums_more m new row sum h.sums lt place.least place.most;
      below_is = λ le. sym (written new row row sum within refl);
      below_gone = λ e. absurd (omega (arith, e, lt));
      below_least = place.least;
      below_most = place.most;
      last_in = last_in;
      outside = outside;
    }
  where
    within : row < length new
    within = omega (arith, h.sums.count, lt)

    ways_in : row < length ways
    ways_in = omega (arith, count, lt)

    old_here : at_row new row ≡ at_row old row
    old_here = h.back.rest row (omega arith)

    way_here : (j : ℕ) → j ≡ row → way_of (set ways row way) j ≡ way
    way_here j d = rw d (get_or-set_same ways row way false ways_in)

    way_kept : (j : ℕ) → j ≢ row → way_of (set ways row way) j ≡ way_of ways j
    way_kept j ne = get_or-set_other ways row j way false ne

    next_is : (j : ℕ) → j ≡ row → j < m → below ≡ at_row new (j + 1)
    next_is j d less = rw d (h.below_is (omega (arith, d, less)))

    outside : (j : ℕ) → row ≤ j → j ≤ m → (j < first') ⊎ (last' < j) → at_row (set new row sum) j ≡ gone
    outside j le in' o = elim (cases_eq j row) [
      | inl d ↦ omega (
        arith,
        ints,
        written new row j sum within d,
        place.most,
        here (subst (λ (x : ℕ). (x < first') ⊎ (last' < x)) d o),
      )
      | inr ne ↦ kept new row j sum ne ∙ h.outside j (omega (arith, le, ne)) in' (after j (omega (arith, le, ne)) in' o)
    ]

    down : (j : ℕ) → row ≤ j → j < m → (phi j +ℤ (downs j +ℤ at_row (set new row sum) (j + 1))) ≤ℤ limit
        → at_row (set new row sum) j ≤ℤ (downs j +ℤ at_row (set new row sum) (j + 1))
    down j le less p =
        let next = kept new row (j + 1) sum (omega (arith, le)) in
        elim (cases_eq j row) [
          | inl d ↦ omega (
            arith,
            ints,
            written new row j sum within d,
            next,
            next_is j d less,
            ap downs d,
            place.down (omega (arith, d, less)) (omega (arith, ints, p, next, next_is j d less, ap downs d, ap phi d)),
          )
          | inr ne ↦ omega (
            arith,
            ints,
            kept new row j sum ne,
            next,
            h.back.down j (omega (arith, le, ne)) less (omega (arith, ints, p, next)),
          )
        ]

    right : (j : ℕ) → row ≤ j → j ≤ m → (phi j +ℤ (rights j +ℤ at_row old j)) ≤ℤ limit
        → at_row (set new row sum) j ≤ℤ (rights j +ℤ at_row old j)
    right j le in' p =
        elim (cases_eq j row) [
          | inl d ↦ omega (
            arith,
            ints,
            written new row j sum within d,
            old_here,
            ap rights d,
            ap (at_row old) d,
            place.right (omega (arith, ints, p, old_here, ap rights d, ap (at_row old) d, ap phi d)),
          )
          | inr ne ↦ omega (arith, ints, kept new row j sum ne, h.back.right j (omega (arith, le, ne)) in' p)
        ]

    goes_down : (j : ℕ) → row ≤ j → j ≤ m → (phi j +ℤ at_row (set new row sum) j) ≤ℤ limit
        → way_of (set ways row way) j ≡ true → (j < m)
        × (at_row (set new row sum) j ≡ downs j +ℤ at_row (set new row sum) (j + 1))
    goes_down j le in' p e =
        let next = kept new row (j + 1) sum (omega (arith, le)) in
        elim (cases_eq j row) [
          | inl d ↦ (let g = place.goes_down (omega (arith, ints, p, written new row j sum within d, ap phi d))
              (sym (way_here j d) ∙ e) in (
                omega (arith, d, g.0),
                omega (
                  arith,
                  ints,
                  written new row j sum within d,
                  next,
                  next_is j d (omega (arith, d, g.0)),
                  ap downs d,
                  g.1,
                ),
              ))
          | inr ne ↦ (let g = h.back.goes_down j (omega (arith, le, ne)) in'
              (omega (arith, ints, p, kept new row j sum ne)) (sym (way_kept j ne) ∙ e) in
              (g.0, omega (arith, ints, kept new row j sum ne, next, g.1)))
        ]

    goes_right : (j : ℕ) → row ≤ j → j ≤ m → (phi j +ℤ at_row (set new row sum) j) ≤ℤ limit
        → way_of (set ways row way) j ≡ false → (at_row (set new row sum) j ≡ rights j +ℤ at_row old j)
        × (j < m → at_row (set new row sum) j <ℤ (downs j +ℤ at_row (set new row sum) (j + 1)))
    goes_right j le in' p e =
        let next = kept new row (j + 1) sum (omega (arith, le)) in
        elim (cases_eq j row) [
          | inl d ↦ (let g = place.goes_right (omega (arith, ints, p, written new row j sum within d, ap phi d))
              (sym (way_here j d) ∙ e) in (
                omega (arith, ints, written new row j sum within d, old_here, ap (at_row old) d, ap rights d, g.0),
                λ less. omega (
                  arith,
                  ints,
                  written new row j sum within d,
                  next,
                  next_is j d less,
                  ap downs d,
                  g.1 (omega (arith, d, less)),
                ),
              ))
          | inr ne ↦ (let g = h.back.goes_right j (omega (arith, le, ne)) in'
              (omega (arith, ints, p, kept new row j sum ne)) (sym (way_kept j ne) ∙ e) in (
                omega (arith, ints, kept new row j sum ne, g.0),
                λ less. omega (arith, ints, kept new row j sum ne, next, g.1 less),
              ))
        ]

-- where nothing is left above, the column is done
pub back_stopped : (m row : ℕ) (limit : ℤ) (phi downs rights : ℕ → ℤ) (old new : List ℤ) (ways : List Bool) (below : ℤ)
    (first last first0 last0 : ℕ) → AreFit m limit phi downs rights → IsWindow m first0 last0 old
    → IsBackUntil m (row + 1) limit phi downs rights old new ways below first last → row ≤ m → row < first0
    → gone ≤ℤ below
    → IsBackColumn m limit phi downs rights old new ways × IsWindow m first last new
back_stopped m row limit phi downs rights old new ways below first last first0 last0 f w h lt before none = (
  record {
    rest = λ j less. absurd (omega (arith, less));
    down = λ j le less p. elim (cases_lt row j) [
      | inl more ↦ h.back.down j (omega (arith, more)) less p
      | inr few ↦ absurd (omega (
        arith,
        ints,
        p,
        f.small,
        f.numbers j (omega (arith, less)),
        f.downs_least j less,
        next_gone j few less,
      ))
    ];
    right = λ j le in' p. elim (cases_lt row j) [
      | inl more ↦ h.back.right j (omega (arith, more)) in' p
      | inr few ↦ absurd (omega (arith, ints, p, f.small, f.numbers j in', f.rights_least j in', old_gone j few))
    ];
    goes_down = λ j le in' p e. elim (cases_lt row j) [
      | inl more ↦ h.back.goes_down j (omega (arith, more)) in' p e
      | inr few ↦ absurd (omega (arith, ints, p, f.small, f.numbers j in', new_gone j few))
    ];
    goes_right = λ j le in' p e. elim (cases_lt row j) [
      | inl more ↦ h.back.goes_right j (omega (arith, more)) in' p e
      | inr few ↦ absurd (omega (arith, ints, p, f.small, f.numbers j in', new_gone j few))
    ];
  },
  record {
    within = h.last_in;
    outside = λ j le o. elim (cases_lt row j) [
      | inl more ↦ h.outside j (omega (arith, more)) le o
      | inr few ↦ new_gone j few
    ];
  },
)
  where
    old_gone : (j : ℕ) → j ≤ row → at_row old j ≡ gone
    old_gone j few = w.outside j (omega (arith, few, lt)) (inl (omega (arith, few, before)))

    new_gone : (j : ℕ) → j ≤ row → at_row new j ≡ gone
    new_gone j few = h.back.rest j (omega (arith, few)) ∙ old_gone j few

    next_gone : (j : ℕ) → j ≤ row → j < m → at_row new (j + 1) ≡ gone
    next_gone j few less = elim (cases_eq j row) [
      | inl d ↦ (let e : j + 1 ≡ row + 1 = omega (arith, d) in
          omega (arith, ints, ap (at_row new) e, h.below_is (omega (arith, less, d)), h.below_most, none))
      | inr ne ↦ new_gone (j + 1) (omega (arith, few, ne))
    ]

pub back_all : (m k : ℕ) (limit : ℤ) (phi downs rights : ℕ → ℤ) (old new : List ℤ) (ways : List Bool) (below : ℤ)
    (first last : ℕ) → k ≡ 0 → IsBackUntil m k limit phi downs rights old new ways below first last
    → IsBackColumn m limit phi downs rights old new ways × IsWindow m first last new
back_all m k limit phi downs rights old new ways below first last e h = (
  subst (λ (x : ℕ). IsBackTo m x limit phi downs rights old new ways) e h.back,
  record { within = h.last_in; outside = λ j le o. h.outside j (omega (arith, e)) le o },
)

-- only the end is left
pub begun_sums : (m : ℕ) (sums : List ℤ) → length sums ≡ m + 1 → ((k : ℕ) → k < m → at_row sums k ≡ gone)
    → AreSumsOf m (set sums m (pos 0))
begun_sums m sums len all = record {
  count = length-set sums m (pos 0) ∙ len;
  least = λ k le. replaced (λ (x : ℤ). pos 0 ≤ℤ x) sums m k (pos 0) within (λ _. omega (arith, ints))
      (λ ne. omega (arith, ints, all k (omega (arith, le, ne))));
  most = λ k le. replaced (λ (x : ℤ). x ≤ℤ gone) sums m k (pos 0) within (λ _. omega (arith, ints))
      (λ ne. omega (arith, ints, all k (omega (arith, le, ne))));
}
  where
    within : m < length sums
    within = omega (arith, len)

pub begun_window : (m : ℕ) (sums : List ℤ) → length sums ≡ m + 1 → ((k : ℕ) → k < m → at_row sums k ≡ gone)
    → IsWindow m m m (set sums m (pos 0))
begun_window m sums len all = record {
  within = omega arith;
  outside = λ k le o. elim (cases_eq k m) [
    | inl d ↦ elim o [
      | inl lt ↦ absurd (omega (arith, lt, d))
      | inr more ↦ absurd (omega (arith, more, d))
    ]
    | inr ne ↦ kept sums m k (pos 0) ne ∙ all k (omega (arith, le, ne))
  ];
}

-- the same ways in another list
pub back_ways : (m : ℕ) (limit : ℤ) (phi downs rights : ℕ → ℤ) (old new : List ℤ) (ways ways' : List Bool)
    → ((k : ℕ) → k ≤ m → way_of ways' k ≡ way_of ways k) → IsBackColumn m limit phi downs rights old new ways
    → IsBackColumn m limit phi downs rights old new ways'
back_ways m limit phi downs rights old new ways ways' same h = record {
  rest = h.rest;
  down = h.down;
  right = h.right;
  goes_down = λ j le in' p e. h.goes_down j le in' p (sym (same j in') ∙ e);
  goes_right = λ j le in' p e. h.goes_right j le in' p (sym (same j in') ∙ e);
}

-- a column of ways between those before it and those after it
pub way_joined : (q m : ℕ) (front column rest : List Bool) → length front ≡ q → length column ≡ m + 1 → (k : ℕ) → k ≤ m
    → way_of (drop q (front ++ (column ++ rest))) k ≡ way_of column k
way_joined q m front column rest e l k le =
    get_or-drop q (front ++ (column ++ rest)) k false
    ∙ ap (λ (x : ℕ). way_of (front ++ (column ++ rest)) (x + k)) (sym e)
    ∙ get_or-append-add front (column ++ rest) k false
    ∙ get_or_append_left column rest false k (omega (arith, l, le))

-- the same where the row is written in another way
pub back_more_at : (m k row : ℕ) (limit : ℤ) (phi downs rights : ℕ → ℤ) (old new : List ℤ) (ways : List Bool)
    (below sum : ℤ) (way : Bool) (first last first' last' : ℕ) → k ≡ row + 1
    → IsBackUntil m k limit phi downs rights old new ways below first last → row ≤ m → length ways ≡ m + 1
    → IsPlaceSearched m row limit (phi row) (downs row +ℤ below) (rights row +ℤ at_row new row) sum way
    → last' ≤ m → ((row < first') ⊎ (last' < row) → gone ≤ℤ sum)
    → ((k : ℕ) → row < k → k ≤ m → (k < first') ⊎ (last' < k) → (k < first) ⊎ (last < k))
    → IsBackUntil m row limit phi downs rights old (set new row sum) (set ways row way) sum first' last'
back_more_at m k row limit phi downs rights old new ways below sum way first last first' last' e h =
    back_more m row limit phi downs rights old new ways below sum way first last first' last'
    (subst (λ (x : ℕ). IsBackUntil m x limit phi downs rights old new ways below first last) e h)

pub back_stopped_at : (m k row : ℕ) (limit : ℤ) (phi downs rights : ℕ → ℤ) (old new : List ℤ) (ways : List Bool)
    (below : ℤ) (first last first0 last0 : ℕ) → k ≡ row + 1 → AreFit m limit phi downs rights
    → IsWindow m first0 last0 old → IsBackUntil m k limit phi downs rights old new ways below first last → row ≤ m
    → row < first0 → gone ≤ℤ below
    → IsBackColumn m limit phi downs rights old new ways × IsWindow m first last new
back_stopped_at m k row limit phi downs rights old new ways below first last first0 last0 e f w h =
    back_stopped m row limit phi downs rights old new ways below first last first0 last0 f w
    (subst (λ (x : ℕ). IsBackUntil m x limit phi downs rights old new ways below first last) e h)
