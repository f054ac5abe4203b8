-- What a successful parse finds for one argument that is required or has a default.
use Rattle.std.proofs.Common.{zero, suc, ◌≡◌, ◌⊎◌, ◌∙◌, subst, ◌<◌, ◌≤◌, ap, cond, ℕ, Bool, true, false, List, [], ◌∷◌, length, is_some, Option, Some, None, refl, sym, inl, inr, arith}
use Rattle.std.specs.List.{All, slice_index_or}
use Rattle.std.specs.Str.{bytes_eq}
use Rattle.std.specs.Prelude.{find, option_map, slice_get}
use Rattle.std.specs.Borrow.{Bor}
use Rattle.std.proofs.lemmas.List.Elements.{All-get_or}
use Rattle.std.proofs.lemmas.Slice.Eq.{bytes_eq-Decides}
use Rattle.clap.specs.Facts.{args_of, groups_of, Entry, EntryPasses, HasReading, PassesArg, WantsDefault, least_values, parser_of, parser_of_value}
use Rattle.clap.specs.Built.{IsAuto, IsParsedFrom, IsPlain, SameRules}
use Rattle.clap.specs.Matches.{found_of, matched_of, one_text}
use Rattle.clap.specs.Values.{Accepts, read_as, reading_of}
use Rattle.clap.specs.Walk.{Text}
use Rattle.clap.specs.declared.parser.matches.Found.{Found}
use Rattle.clap.specs.declared.builder.action.ArgAction.TheVariants.{Count, Set}
use Rattle.clap.specs.declared.builder.arg.Arg.{Arg}
use Rattle.clap.specs.declared.builder.command.Command.{Command}
use Rattle.clap.specs.declared.builder.command.Command.TheViews.{out-Command}
use Rattle.clap.specs.declared.builder.value_parser.Reading.{Reading}
use Rattle.clap.specs.declared.builder.value_parser.ValueParser.{ValueParser}
use Rattle.clap.specs.declared.parser.matches.ArgMatches.{ArgMatches}
use Rattle.clap.specs.declared.parser.matches.MatchedArg.{MatchedArg}
use Rattle.clap.proofs.CallerLemmas.{default_present, entry_by_id, present_has_entry, required_present, same_rules_by_id}
use Rattle.surface_cli.specs.Taking.{HasValue}

-- ---- searches

find_some : (p : Entry → Bool) (xs : List Entry) (i : ℕ) → i < length xs
    → ((d : Entry) → p (slice_index_or xs i d) ≡ true)
    → is_some (option_map (λ e. e.1) (find p xs)) ≡ true
find_some p [] i lt h = absurd (omega arith)
find_some p (x ∷ xs) zero lt h = rw (h x) refl
find_some p (x ∷ xs) (suc i) lt h = go (p x) (find_some p xs i (omega arith) h)
  where
    go : (b : Bool) → is_some (option_map (λ e. e.1) (find p xs)) ≡ true
        → is_some (option_map (λ e. e.1) (cond b (Some x) (find p xs))) ≡ true
    go true e = refl
    go false e = e

-- ---- one argument

-- the argument takes one value, is required or has a default, and is none that `clap` adds
pub record IsSureArg (a : Arg) : Type 0 where
  pub given : (a.required ≡ true) ⊎ WantsDefault a
  pub action : a.action ≡ Some Set
  pub delimiter : a.val_delim ≡ None
  pub least : 1 ≤ least_values a
  pub named : a.id.now ≡ [] → ⊥
  pub own : IsAuto a → ⊥
  pub same_case : a.ignore_case ≡ false

head_passes : (P : Bor Text → Type 0) (how : Reading) (vs : List (Bor Text)) → All P vs → 0 < length vs
    → (v : Bor Text) × (option_map (λ s. read_as how s.now) (slice_get vs 0) ≡ Some (read_as how v.now)) × P v
head_passes P how [] h some = absurd (omega arith)
head_passes P how (v ∷ vs) h some = (v, refl, All-get_or P (v ∷ vs) 0 v (omega arith) h)

text_at : (f : Found) (id : Text) (x : MatchedArg) (how : Reading) (t : Text) → matched_of f id ≡ Some x
    → x.reading ≡ how
    → option_map (λ s. read_as how s.now) (slice_get x.vals.items 0) ≡ Some t → one_text f id ≡ Some t
text_at f id x how t found is v = rw (found, is) v

accepts_as : (a y : Arg) (q : ValueParser) (t : Text) → SameRules a y → a.ignore_case ≡ false → a.value_parser ≡ Some q
    → Accepts y.ignore_case (parser_of y) t → Accepts false q t
accepts_as a y q t s case parser read =
    let is_q : parser_of y ≡ q = ap parser_of_value (s.parser q parser) in
    let as_q : Accepts y.ignore_case q t = subst (λ (w : ValueParser). Accepts y.ignore_case w t) is_q read in
    subst (λ (b : Bool). Accepts b q t) (s.ignore_case ∙ case) as_q

module _ (c : Command) (m : ArgMatches) (p : IsParsedFrom c m) (plain : IsPlain c)
    (globals : (out-Command c).has_globals ≡ false)
    (negates : (out-Command c).subcommand_negates_reqs ≡ false) (k : ℕ) (d : Arg) (lt : k < length (args_of c))
    (sure : IsSureArg (slice_index_or (args_of c) k d))
    (unique : (j : ℕ) (e : Arg) → j < length (args_of c)
    → bytes_eq (slice_index_or (args_of c) j e).id.now (slice_index_or (args_of c) k d).id.now ≡ true → j ≡ k)
    (q : ValueParser) (parser : (slice_index_or (args_of c) k d).value_parser ≡ Some q) where
  abbrev pub the_arg : Arg
  the_arg = slice_index_or (args_of c) k d

  has_entry : is_some (matched_of (found_of m) the_arg.id.now) ≡ true
  has_entry = elim sure.given [
    | inl required ↦ present_has_entry (found_of m) the_arg.id.now
        (required_present c m p plain globals negates k d lt required)
    | inr wants ↦
        let has = default_present c m p globals k d lt wants in
        find_some (λ e. bytes_eq e.0.now the_arg.id.now) (found_of m).entries.items has.0 has.1 has.2
  ]

  -- an argument of the built command with this id has the rules of this one
  same_rules : (j : ℕ) (x : Arg) → j < length (args_of p.built) → slice_index_or (args_of p.built) j x ≡ x
      → bytes_eq x.id.now the_arg.id.now ≡ true → SameRules the_arg x
  same_rules = same_rules_by_id c m p k d lt unique sure.own

  no_group : (e : Entry) → e.0.now ≡ the_arg.id.now → EntryPasses p.built e → e.1.is_group ≡ true → ⊥
  no_group e key pass g = elim (pass.3 g) [
    | inl empty ↦ sure.named (sym key ∙ empty)
    | inr lots ↦
        let no_groups : groups_of p.built ≡ [] = (p.from.plain plain).1 in
        let bad : 0 < 0 = rw no_groups at lots in
        absurd (omega arith)
  ]

  filled : (e : Entry) → e.0.now ≡ the_arg.id.now → EntryPasses p.built e → 0 < length e.1.vals.items
  filled e key pass = elim pass.1 [
    | inl h ↦ absurd (no_group e key pass h.0)
    | inr (inl some) ↦ some
    | inr (inr (inl h)) ↦
        let any = h.1 in
        let s = same_rules any.0 any.1 any.2 any.3 (rw key at any.4.0) in
        let is_set : any.1.action ≡ Some Set = s.action Set sure.action in
        let bad : Set ≡ Count = rw is_set at any.4.1 in
        cc
    | inr (inr (inr h)) ↦
        let s = same_rules h.0 h.1 h.2 h.3 (rw key at h.4.0) in
        elim h.4.1 [
          | inl none ↦
              let one = s.least sure.action sure.least in
              absurd (omega arith)
          | inr has ↦
              let bad : false ≡ true = rw (s.val_delim, sure.delimiter) at has in
              cc
        ]
  ]

  passes : (e : Entry) → e.0.now ≡ the_arg.id.now → EntryPasses p.built e
      → All (λ v. PassesArg p.built the_arg.id.now v.now) e.1.vals.items
  passes e key pass = elim pass.0 [
    | inl g ↦ absurd (no_group e key pass g)
    | inr vals ↦ subst (λ (w : Text). All (λ v. PassesArg p.built w v.now) e.1.vals.items) key vals
  ]

  read_by : (e : Entry) → e.0.now ≡ the_arg.id.now → EntryPasses p.built e → e.1.reading ≡ reading_of q
  read_by e key pass = elim pass.4 [
    | inl g ↦ absurd (no_group e key pass g)
    | inr h ↦
        let any : HasReading p.built the_arg.id.now e.1.reading =
        subst (λ (w : Text). HasReading p.built w e.1.reading) key h in
        let s = same_rules any.0 any.1 any.2 any.3 any.4.0 in
        let is_q : parser_of any.1 ≡ q = ap parser_of_value (s.parser q parser) in
        sym any.4.1 ∙ ap reading_of is_q
  ]

  value_in : (x : MatchedArg) (e : Entry) → matched_of (found_of m) the_arg.id.now ≡ Some x → e.1 ≡ x
      → e.0.now ≡ the_arg.id.now → EntryPasses p.built e
      → HasValue q the_arg.id.now (found_of m)
  value_in x e found same key pass =
      let v = head_passes (λ v. PassesArg p.built the_arg.id.now v.now) (reading_of q) e.1.vals.items
      (passes e key pass) (filled e key pass) in
      let s = same_rules v.2.0 v.2.1 v.2.2 v.2.3 v.2.4.0 in (
        v.0.now,
        text_at (found_of m) the_arg.id.now e.1 (reading_of q) (read_as (reading_of q) v.0.now)
            (found ∙ ap Some (sym same)) (read_by e key pass) v.1,
        accepts_as the_arg v.2.1 q v.0.now s sure.same_case parser v.2.4.1,
      )

  value_at : (x : MatchedArg) → matched_of (found_of m) the_arg.id.now ≡ Some x → HasValue q the_arg.id.now (found_of m)
  value_at x found =
      let got = entry_by_id (EntryPasses p.built) (found_of m).entries.items the_arg.id.now x
      (p.parsed (p.from.globals ∙ globals)).values found in
      value_in x got.0 found got.1 ((bytes_eq-Decides got.0.0.now the_arg.id.now).0 got.2) got.3

  pub has_value : HasValue q the_arg.id.now (found_of m)
  has_value = go (matched_of (found_of m) the_arg.id.now) refl has_entry
    where
      go : (o : Option MatchedArg) → matched_of (found_of m) the_arg.id.now ≡ o
          → is_some (matched_of (found_of m) the_arg.id.now) ≡ true
          → HasValue q the_arg.id.now (found_of m)
      go None e h =
          let bad : false ≡ true = rw e at h in
          cc
      go (Some x) e h = value_at x e
