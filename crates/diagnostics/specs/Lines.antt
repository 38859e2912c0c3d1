-- The lines of a list, and its summary.
use Rattle.std.specs.Prelude.{ℕ, List, [], ◌∷◌, ◌++◌, codes, slice_get, Option, None, IfSome, All, length, nat_lt, if◌then◌else◌, ◌-◌, ◌<◌, ◌^◌}
use Rattle.std.specs.Option.{option_map_or}
use Rattle.std.specs.List.{flat_map}
use Rattle.std.specs.Fmt.{decimal}
use Rattle.source_text.specs.Lines.{line_at, column_at, IsCursor}
use Rattle.sig_model.specs.declared.diag.Diag.{Diag}
use Rattle.diagnostics.specs.Texts.{id_text, opening_text, middle_text}
use Rattle.diagnostics.specs.declared.lines.Source.{Source}
use Rattle.diagnostics.specs.declared.lines.Reached.{Reached}

-- an argument, which is empty where it is missing
abbrev pub argument : List (List ℕ) → ℕ → List ℕ
argument args k = option_map_or (λ word. word) (slice_get args k) []

-- the text of a diagnostic
abbrev pub message : Diag → List ℕ
message d = opening_text d.id ++ argument d.args 0 ++ middle_text d.id ++ argument d.args 1

-- `FILE:LINE:COL: [ID] TEXT`, ended by a newline
abbrev pub line_text : List ℕ → ℕ → ℕ → Diag → List ℕ
line_text name line column d = name ++ codes ":" ++ decimal line ++ codes ":" ++ decimal column ++ codes ": [" ++ id_text d.id ++ codes "] " ++ message d ++ 10 ∷ []

-- the line of a diagnostic in a file of this name and text: a start behind the text's end counts as that end
abbrev pub line_in : List ℕ → List ℕ → Diag → List ℕ
line_in name text d = line_text name (line_at text d.place.start) (column_at text d.place.start) d

-- the file with a number: those of a call are counted from 2, since 0 and 1 are the core's
abbrev pub source_at : List Source → ℕ → Option Source
source_at sources file = if nat_lt file 2 then None else slice_get sources (file - 2)

-- the line of a diagnostic in its file
abbrev pub line_of : List Source → Diag → List ℕ
line_of sources d = option_map_or (λ source. line_in source.name source.text d) (source_at sources d.place.file) []

-- each file has fewer bytes than this
abbrev pub AllSmall : List Source → Type 0
AllSmall sources = All (λ s. length s.text < 2 ^ 32 - 1) sources

-- the cursor stands in the text of this file
abbrev pub IsReached : List Source → Reached → Type 0
IsReached sources r = IfSome (slice_get sources r.file) (λ s. IsCursor s.text r.cursor)

abbrev pub lines_of : List Source → List Diag → List ℕ
lines_of sources list = flat_map (line_of sources) list

-- `checked N files: M diagnostics`
abbrev pub summary : ℕ → ℕ → List ℕ
summary files count = codes "checked " ++ decimal files ++ codes " files: " ++ decimal count ++ codes " diagnostics" ++ 10 ∷ []
