-- After a successful parse, each argument of a command that is required or has a default has its value.
use Rattle.std.proofs.Common.{codes, ◌≢◌, zero, suc, ◌≡◌, ◌∙◌, subst, ◌<◌, ◌≤◌, ap, ℕ, true, false, not, List, [], ◌∷◌, length, map, is_some, Option, Some, None, refl, sym, inl, inr, arith, true≢false}
use Rattle.std.specs.List.{All, slice_index_or, list_all, list_any}
use Rattle.std.specs.Str.{bytes_eq}
use Rattle.std.specs.Borrow.{Bor}
use Rattle.std.proofs.lemmas.List.{get_or-map, length-map}
use Rattle.std.proofs.lemmas.List.Folds.{list_any_at}
use Rattle.std.proofs.lemmas.Slice.Eq.{bytes_eq-Decides}
use Rattle.std.proofs.lemmas.Bool.{or_cases}
use Rattle.clap.specs.Facts.{args_of}
use Rattle.clap.specs.Built.{IsParsedFrom, IsPlain, IsPlainArg}
use Rattle.clap.specs.Matches.{found_of}
use Rattle.clap.specs.Faults.{is_simple_and_free}
use Rattle.clap.specs.Texts.{items_of}
use Rattle.clap.specs.Kinds.{IsAmong, Kinds}
use Rattle.clap.specs.declared.error.kind.ErrorKind.{ErrorKind}
use Rattle.clap.specs.Walk.{Rule, Text, is_empty, is_simple_arg, rule_of}
use Rattle.clap.specs.Simple.{App, app_of, has_simple_rules, is_buildable, is_simple}
use Rattle.clap.specs.declared.builder.action.ArgAction.{ArgAction}
use Rattle.clap.specs.declared.builder.action.ArgAction.TheVariants.{Append, Count, Help, HelpLong, HelpShort, Set, SetFalse, SetTrue, Version}
use Rattle.clap.specs.declared.builder.arg.Arg.{Arg}
use Rattle.clap.specs.declared.builder.command.Command.{Command}
use Rattle.clap.specs.declared.parser.matches.ArgMatches.{ArgMatches}
use Rattle.clap.proofs.WalkLemmas.{both}
use Rattle.clap.proofs.SimpleLemmas.{is_false, is_nil, plain_fields}
use Rattle.clap.proofs.TakesLemmas.{each_rule}
use Rattle.surface_cli.specs.Taking.{HasValue, HasValues, are_distinct, is_set, is_sure, is_sure_app}
use Rattle.surface_cli.proofs.ArgumentLemmas.{IsSureArg, has_value}

repeated : (x : Text) (xs : List Text) (k : ℕ) (d : Text) → are_distinct (x ∷ xs) ≡ true → k < length xs
    → x ≡ slice_index_or xs k d → ⊥
repeated x xs k d distinct lt same =
    let none = is_false _ (both (not (list_any (λ other. bytes_eq x other) xs)) _ distinct).0 in
    let hit = list_any_at (λ other. bytes_eq x other) xs k d lt ((bytes_eq-Decides x (slice_index_or xs k d)).1 same) in
    true≢false (sym hit ∙ none)

-- in distinct texts no two places have the same text
pub one_place : (ids : List Text) (j k : ℕ) (d e : Text) → are_distinct ids ≡ true → j < length ids → k < length ids
    → slice_index_or ids j e ≡ slice_index_or ids k d → j ≡ k
one_place [] j k d e distinct lj lk same = absurd (omega arith)
one_place (x ∷ xs) zero zero d e distinct lj lk same = refl
one_place (x ∷ xs) zero (suc k) d e distinct lj lk same = absurd (repeated x xs k d distinct (omega arith) same)
one_place (x ∷ xs) (suc j) zero d e distinct lj lk same = absurd (repeated x xs j e distinct (omega arith) (sym same))
one_place (x ∷ xs) (suc j) (suc k) d e distinct lj lk same =
    ap suc (one_place xs j k d e (both (not (list_any (λ other. bytes_eq x other) xs)) _ distinct).1 (omega arith)
    (omega arith) same)

-- ---- all the arguments of a command

is_none : {X : Type 0} (o : Option X) → not (is_some o) ≡ true → o ≡ None
is_none None e = refl
is_none (Some x) e = absurd (true≢false (sym e))

is_some_of : {X : Type 0} (xs : List X) → not (is_empty xs) ≡ true → 0 < length xs
is_some_of [] e = absurd (true≢false (sym e))
is_some_of (x ∷ xs) e = omega arith

only_set : (o : Option ArgAction) → is_set o ≡ true → o ≡ Some Set
only_set (Some Set) e = refl
only_set (Some Append) e = absurd (true≢false (sym e))
only_set (Some SetTrue) e = absurd (true≢false (sym e))
only_set (Some SetFalse) e = absurd (true≢false (sym e))
only_set (Some Count) e = absurd (true≢false (sym e))
only_set (Some Help) e = absurd (true≢false (sym e))
only_set (Some HelpShort) e = absurd (true≢false (sym e))
only_set (Some HelpLong) e = absurd (true≢false (sym e))
only_set (Some Version) e = absurd (true≢false (sym e))
only_set None e = absurd (true≢false (sym e))

differs : (a b : Text) → not (bytes_eq a b) ≡ true → a ≡ b → ⊥
differs a b e same = true≢false (sym ((bytes_eq-Decides a b).1 same) ∙ is_false _ e)

sure_arg : (a : Arg) → is_simple_arg a ≡ true → is_sure (rule_of a) ≡ true → a.ignore_case ≡ false → IsSureArg a
sure_arg a simple e case =
    let p = both _ _ e in
    let q = both _ _ p.1 in
    let r = both _ _ q.1 in
    let s = both _ _ r.1 in
    let t = both _ _ s.1 in
    let u = both _ _ simple in
    let v = both _ _ u.1 in
    let w = both _ _ v.1 in
    let x = both _ _ w.1 in
    let one : a.num_vals ≡ None = is_none a.num_vals r.0 in
    record {
      given = elim (or_cases a.required _ p.0) [
        | inl required ↦ inl required
        | inr some ↦ inr (
          is_nil _ v.0,
          rw (length-map (items_of a.default_vals) (λ (s : Bor Text). s.now)) at
              (is_some_of _ some),
        )
      ];
      action = only_set a.action q.0;
      delimiter = is_none a.val_delim x.0;
      least = rw one one_is_least;
      named = λ empty. absurd (named_of a.id.now s.0 empty);
      own = λ auto. elim auto [
        | inl h ↦ differs a.id.now (codes "help") t.0 h
        | inr h ↦ differs a.id.now
            (codes "version") t.1 h
      ];
      same_case = case;
    }
  where
    one_is_least : 1 ≤ 1
    one_is_least = omega arith

    named_of : (id : Text) → not (is_empty id) ≡ true → id ≡ [] → ⊥
    named_of id e empty =
        let some = is_some_of id e in
        let bad : 0 < 0 = rw empty at some in
        omega arith

plain_args : (c : Command) → list_all (λ r. r.is_simple) (map rule_of (args_of c)) ≡ true
    → list_all (λ r. r.is_free) (map rule_of (args_of c)) ≡ true
    → All IsPlainArg (args_of c)
plain_args c simple free k d lt =
    let p = both _ _ (each_rule (λ r. r.is_simple) (args_of c) simple k d lt) in
    let q = both _ _ p.1 in
    let r = both _ _ q.1 in
    let s = both _ _ (each_rule (λ r. r.is_free) (args_of c) free k d lt) in
    let t = both _ _ s.1 in
    (is_false _ s.0, is_nil _ t.0, is_nil _ p.0, is_nil _ r.0)

some_arg : (xs : List Arg) (k : ℕ) → k < length xs → Arg
some_arg [] k lt = absurd (omega arith)
some_arg (x ∷ xs) k lt = x

id_at : (xs : List Arg) (k : ℕ) (d : Arg) → k < length xs
    → slice_index_or (map (λ r. r.id) (map rule_of xs)) k d.id.now ≡ (slice_index_or xs k d).id.now
id_at xs k d lt =
    get_or-map (λ (r : Rule). r.id) (map rule_of xs) k (rule_of d) d.id.now (rw (length-map xs rule_of) lt)
    ∙ ap (λ (r : Rule). r.id) (get_or-map rule_of xs k d (rule_of d) lt)

one_arg : (xs : List Arg) → are_distinct (map (λ r. r.id) (map rule_of xs)) ≡ true → (j k : ℕ) (d e : Arg)
    → j < length xs → k < length xs
    → bytes_eq (slice_index_or xs j e).id.now (slice_index_or xs k d).id.now ≡ true → j ≡ k
one_arg xs distinct j k d e lj lk same =
    let count : length (map (λ r. r.id) (map rule_of xs)) ≡ length xs = length-map (map rule_of xs) (λ (r : Rule). r.id)
    ∙ length-map xs rule_of in
    one_place (map (λ r. r.id) (map rule_of xs)) j k d.id.now e.id.now distinct (rw count lj) (rw count lk)
    (id_at xs j e lj ∙ ((bytes_eq-Decides _ _).0 same ∙ sym (id_at xs k d lk)))

-- after a parse of a sure command, each argument has a value that passed its parser
pub has_values : (c : Command) (m : ArgMatches) → IsParsedFrom c m → is_sure_app (app_of c) ≡ true
    → HasValues (map rule_of (args_of c)) (found_of m)
has_values c m p e k r lt parser has case =
    let rules = map rule_of (args_of c) in
    let a = both (is_simple_and_free (app_of c)) _ e in
    let f = both (list_all (λ r. r.is_free) rules) _ a.1 in
    let n = both (not (app_of c).top.subcommand_negates_reqs) _ f.1 in
    let s = both (list_all is_sure rules) (are_distinct (map (λ r. r.id) rules)) n.1 in
    let simple = both (app_of c).top.is_plain _
    (both (has_simple_rules (app_of c).top) _
    (both (is_buildable (app_of c)) _ (both (is_simple (app_of c)) _ a.0).0).0).0 in
    let fields = plain_fields c simple.0 in
    let plain : IsPlain c = (plain_args c simple.1 f.0, fields.groups) in
    let low : k < length (args_of c) = rw (length-map (args_of c) rule_of) at lt in
    let d = some_arg (args_of c) k low in
    let place : slice_index_or rules k r ≡ rule_of (slice_index_or (args_of c) k d) =
    get_or-map rule_of (args_of c) k d r low in
    let is_parser : (slice_index_or (args_of c) k d).value_parser ≡ Some parser =
    ap (λ (r : Rule). r.parser) (sym place) ∙ has in
    let no_case : (slice_index_or (args_of c) k d).ignore_case ≡ false = ap (λ (r : Rule). r.ignore_case) (sym place)
    ∙ case in
    let sure = sure_arg (slice_index_or (args_of c) k d) (each_rule (λ r. r.is_simple) (args_of c) simple.1 k d low)
    (each_rule is_sure (args_of c) s.0 k d low) no_case in
    subst (λ (r : Rule). HasValue parser r.id (found_of m)) (sym place)
    (has_value c m p plain fields.globals (is_false _ n.0) k d low sure
    (λ j e lj same. one_arg (args_of c) s.1 j k d e lj low same) parser is_parser)

-- a list that has a kind is not empty
pub among_some : (k : ErrorKind) (kinds : Kinds) → IsAmong k kinds → kinds ≢ []
among_some k [] h e = h
among_some k (x ∷ xs) h e = cc

-- a sure command is one for which `clap` states the matches
pub simple_app : (app : App) → is_sure_app app ≡ true → (is_simple app ≡ true) × (is_simple_and_free app ≡ true)
simple_app app e =
    let all = (both (is_simple_and_free app) _ e).0 in
    ((both (is_simple app) _ all).0, all)
