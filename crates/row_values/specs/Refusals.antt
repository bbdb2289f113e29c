-- The refusals: the words of each, and each with what it shows.
use Rattle.std.specs.Prelude.{ℕ, List, [], ◌==◌, codes, Option, Some, None, if◌then◌else◌}
use Rattle.std.specs.Fmt.{decimal}
use Rattle.row_values.specs.declared.refusals.Refusal.{Refusal}
use Rattle.row_values.specs.declared.refusals.TheConstants as number

-- the words of the refusal of this number
abbrev pub refusal_words : ℕ → Option (List ℕ)
refusal_words code =
    if code == number.SYNTAX then Some (codes "syntax") else
    if code == number.UNKNOWN_TABLE then Some (codes "unknown table") else
    if code == number.UNKNOWN_COLUMN then Some (codes "unknown column") else
    if code == number.AMBIGUOUS then Some (codes "ambiguous") else
    if code == number.UNKNOWN_STATEMENT then Some (codes "unknown statement") else
    if code == number.NAME_TAKEN then Some (codes "name taken") else
    if code == number.MISFIT then Some (codes "misfit") else
    if code == number.TOO_MANY then Some (codes "too many") else
    if code == number.ARGUMENT_COUNT then Some (codes "argument count") else
    if code == number.ARGUMENT_KIND then Some (codes "argument kind") else
    if code == number.WIDE then Some (codes "wide") else
    if code == number.TOO_MANY_ROWS then Some (codes "too many rows") else
    if code == number.MISSING_FILE then Some (codes "missing file") else
    if code == number.FILE_TOO_LONG then Some (codes "file too long") else
    if code == number.NOT_A_TABLE then Some (codes "not a table") else
    if code == number.SCHEMA_DIFFERS then Some (codes "schema differs") else
    if code == number.UNKNOWN_CURSOR then Some (codes "unknown cursor") else
    if code == number.UNKNOWN_PLAN then Some (codes "unknown plan") else
    if code == number.NOT_GROUPED then Some (codes "not grouped") else
    if code == number.STORE_LIMIT then Some (codes "store limit") else
    None

-- the refusal of this number, with what it shows
abbrev pub refusal : ℕ → List ℕ → Refusal
refusal code shown = record { code = code; shown = shown }

-- each refusal, with what it shows
abbrev pub syntax : Refusal
syntax = refusal number.SYNTAX []

abbrev pub unknown_table : List ℕ → Refusal
unknown_table name = refusal number.UNKNOWN_TABLE name

abbrev pub unknown_column : List ℕ → Refusal
unknown_column reference = refusal number.UNKNOWN_COLUMN reference

abbrev pub ambiguous : List ℕ → Refusal
ambiguous reference = refusal number.AMBIGUOUS reference

abbrev pub unknown_statement : List ℕ → Refusal
unknown_statement name = refusal number.UNKNOWN_STATEMENT name

abbrev pub name_taken : List ℕ → Refusal
name_taken name = refusal number.NAME_TAKEN name

abbrev pub misfit : List ℕ → Refusal
misfit reference = refusal number.MISFIT reference

abbrev pub too_many : List ℕ → Refusal
too_many parts = refusal number.TOO_MANY parts

abbrev pub argument_count : ℕ → Refusal
argument_count wanted = refusal number.ARGUMENT_COUNT (decimal wanted)

abbrev pub argument_kind : ℕ → Refusal
argument_kind position = refusal number.ARGUMENT_KIND (decimal position)

abbrev pub wide : List ℕ → Refusal
wide alias = refusal number.WIDE alias

abbrev pub too_many_rows : Refusal
too_many_rows = refusal number.TOO_MANY_ROWS []

abbrev pub missing_file : Refusal
missing_file = refusal number.MISSING_FILE []

abbrev pub file_too_long : Refusal
file_too_long = refusal number.FILE_TOO_LONG []

abbrev pub not_a_table : List ℕ → Refusal
not_a_table fault = refusal number.NOT_A_TABLE fault

abbrev pub schema_differs : List ℕ → Refusal
schema_differs table = refusal number.SCHEMA_DIFFERS table

abbrev pub unknown_cursor : List ℕ → Refusal
unknown_cursor name = refusal number.UNKNOWN_CURSOR name

abbrev pub unknown_plan : ℕ → Refusal
unknown_plan plan = refusal number.UNKNOWN_PLAN (decimal plan)

abbrev pub not_grouped : List ℕ → Refusal
not_grouped part = refusal number.NOT_GROUPED part

abbrev pub store_limit : List ℕ → Refusal
store_limit limit = refusal number.STORE_LIMIT limit
