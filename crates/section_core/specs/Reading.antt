-- How the front of a text reads as parts, and which fault a text has. Each reader reads the versions up to its latest.
use Rattle.std.specs.Prelude.{ℕ, ◌≡◌, ◌<◌, suc, Bool, true, false, nat_lt, ◌&&◌, List, [], ◌∷◌, ◌++◌, length, take, Some, slice_get, codes}
use Rattle.std.specs.List.{AllZip, AllByRecursion, list_all}
use Rattle.fku_types.specs.declared.fault.Fault.{Fault}
use Rattle.fku_types.specs.declared.fault.Fault.TheVariants.{Form, Range, NameTwice, NotRising, Limit, EndMissing, NoContours}
use Rattle.section_core.specs.declared.parts.Version.{Version}
use Rattle.section_core.specs.declared.parts.Version.TheVariants.{One}
use Rattle.section_core.specs.Parts.{Parts, ObjectParts, FileParts, IsFile, is_read, as_file, file_lines, contours_of}
use Rattle.text_io.specs.WordLists.{Matches, Line, Kept, lines_of}
use Rattle.text_io.specs.Formats.{BeginsAny}
use Rattle.section_core.specs.Laws.{Law, in_range, name_once, rising, within, law_order, facts, KeepsAll, IsLawfulFile}

-- no line of these is the line END
abbrev pub HasNoEnd : List Line → Type 0
HasNoEnd lines = AllByRecursion (λ line. line ≡ codes "END" ∷ [] → ⊥) lines

-- the parts are of a version that is read, and keep these laws
pub record IsUnderLaws (latest : Version) (laws : List Law) (F : FileParts) : Type 0 where
  pub is_file : IsFile F
  pub known : is_read latest F.version ≡ true
  pub keeps : KeepsAll laws (facts F)

-- The lines match a prefix of the lines of some such parts.
abbrev pub Begins : Version → List Law → List Line → Type 0
Begins latest laws lines = BeginsAny (IsUnderLaws latest laws) file_lines lines

-- what is wrong with a line: it cannot be read at its place, or it breaks a law
pub data Breach : Type 0 where
  form : Breach
  broken : Law → Breach

-- The lines match no prefix for any parts; or they match one for parts that keep the laws before this one, and none for
-- parts that keep this law too.
abbrev pub Breaks : Version → List Line → Breach → Type 0
Breaks latest lines form = Begins latest [] lines → ⊥
Breaks latest lines (broken law) =
    (k : ℕ) × (slice_get law_order k ≡ Some law) × Begins latest (take k law_order) lines
    × (Begins latest (take (suc k) law_order) lines → ⊥)

-- the fault that reports a breach
abbrev pub fault_at : Breach → ℕ → Fault
fault_at form n = Form n
fault_at (broken in_range) n = Range n
fault_at (broken name_once) n = NameTwice n
fault_at (broken rising) n = NotRising n
fault_at (broken (within limit)) n = Limit limit n

-- The first line at fault: up to the line before it the lines match a prefix for some lawful parts.
pub record HasBreach (latest : Version) (kept : List Kept) (n : ℕ) (breach : Breach) : Type 0 where
  pub before : List Kept
  pub line : Line
  pub after : List Kept
  pub split : kept ≡ before ++ (n, line) ∷ after
  pub no_end : HasNoEnd (lines_of before)
  pub lawful_before : Begins latest law_order (lines_of before)
  pub breaks : Breaks latest (lines_of before ++ line ∷ []) breach

-- The kept lines up to and with the first line END are those of lawful parts of a version that is read.
pub record HasFile (latest : Version) (kept : List Kept) (F : FileParts) (tail : List Kept) : Type 0 where
  pub front : List Kept
  pub split : kept ≡ front ++ tail
  pub match : AllZip Matches (lines_of front) (file_lines F)
  pub is_file : IsFile F
  pub known : is_read latest F.version ≡ true
  pub lawful : IsLawfulFile F

abbrev pub has_contour : ObjectParts → Bool
has_contour o = nat_lt 0 (length (contours_of o.sections))

-- there is an object, and each has a contour
abbrev pub is_filled : FileParts → Bool
is_filled F = nat_lt 0 (length F.objects) && list_all has_contour F.objects

-- No line is at fault, and there is no END.
abbrev pub EndsTooSoon : Version → List Kept → Type 0
EndsTooSoon latest kept = HasNoEnd (lines_of kept) × Begins latest law_order (lines_of kept)

-- the text has this fault
abbrev pub HasFileFault : Version → List Kept → Fault → Type 0
HasFileFault latest kept EndMissing = EndsTooSoon latest kept
HasFileFault latest kept NoContours =
    (F : FileParts) × (tail : List Kept) × HasFile latest kept F tail × (is_filled F ≡ false)
HasFileFault latest kept fault =
    (n : ℕ) × (breach : Breach) × HasBreach latest kept n breach × (fault ≡ fault_at breach n)

-- The same where only version 1 is read: the text's parts are those of its one object.
abbrev pub HasFront : List Kept → Parts → List Kept → Type 0
HasFront kept S tail = HasFile One kept (as_file S) tail

abbrev pub HasContour : Parts → Type 0
HasContour S = 0 < length (contours_of S.sections)

abbrev pub HasFault : List Kept → Fault → Type 0
HasFault kept NoContours = (S : Parts) × (tail : List Kept) × HasFront kept S tail × (contours_of S.sections ≡ [])
HasFault kept fault = HasFileFault One kept fault
