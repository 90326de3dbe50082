-- Bytes as a document.
use Rattle.std.proofs.Common.{◌≡◌, ℕ, List, Some, None, Ok, Err, inl, inr}
use Rattle.std.proofs.{lemmas.Bool.cases_Bool, lemmas.Str.is_utf8-from_IsUtf8, lemmas.Str.IsUtf8-from_is_utf8}
use Rattle.std.specs.Str.{IsUtf8, is_utf8}
use Rattle.toml.specs.{Data.Members, Parse.parse_document}
use Rattle.eevdf_workload.specs.{declared.load_fault.LoadFault.TheVariants.NotToml, Meaning.document_of}

pub document_of-read : (bytes : List ℕ) (document : Members) → IsUtf8 bytes → parse_document bytes ≡ Some document → document_of bytes ≡ Ok document
unfolding document_of
document_of-read bytes document text parsed = rw (is_utf8-from_IsUtf8 bytes text, parsed)

pub document_of-refused : (bytes : List ℕ) → (IsUtf8 bytes → parse_document bytes ≡ None) → document_of bytes ≡ Err NotToml
unfolding document_of
document_of-refused bytes refused =
    elim (cases_Bool (is_utf8 bytes)) [
      | inl text ↦ rw (text, refused (IsUtf8-from_is_utf8 bytes text))
      | inr other ↦ rw other
    ]
