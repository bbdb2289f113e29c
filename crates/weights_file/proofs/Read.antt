-- The JSON value of bytes, by what serde_json tells of its reading.
use Rattle.std.proofs.Common.{◌≡◌, ◌∙◌, ap, refl, ℕ, List, Bool, true, false, Some, None, cond}
use Rattle.std.proofs.lemmas.Str.{IsUtf8-from_is_utf8, is_utf8-from_IsUtf8}
use Rattle.std.specs.Str.{IsUtf8, is_utf8}
use Rattle.serde_json.specs.Data.{Data}
use Rattle.serde_json.specs.Read.{read}
use Rattle.weights_file.specs.Files.{json_of}

pub read_as_defined : (bytes : List ℕ) (json : Data) → IsUtf8 bytes → read bytes ≡ Some json → json_of bytes ≡ Some json
unfolding json_of
read_as_defined bytes json utf8 is =
    ap (λ (b : Bool). cond b (read bytes) None) (is_utf8-from_IsUtf8 bytes utf8) ∙ is

none_by : (bytes : List ℕ) (b : Bool) → is_utf8 bytes ≡ b → (IsUtf8 bytes → read bytes ≡ None)
    → cond b (read bytes) None ≡ None
none_by bytes true is none = none (IsUtf8-from_is_utf8 bytes is)
none_by bytes false is none = refl

pub none_as_defined : (bytes : List ℕ) → (IsUtf8 bytes → read bytes ≡ None) → json_of bytes ≡ None
unfolding json_of
none_as_defined bytes none = none_by bytes (is_utf8 bytes) refl none
