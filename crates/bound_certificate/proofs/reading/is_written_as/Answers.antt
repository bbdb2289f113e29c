use Rattle.std.proofs.Common.{◌≡◌, Some, false, ap, sym, ◌∙◌, string_bytes}
use Rattle.std.proofs.lemmas.Slice.Eq.{bytes_eq-Decides}
use Rattle.serde_json.specs.Read.{read}
use Rattle.serde_json.specs.View.{view}
use Rattle.serde_json.specs.Written.{compact_text, has_float}
use Rattle.bound_certificate.specs.Certificates.{certificate_data}
use Rattle.bound_certificate.proofs.Shapes.{exact}
use Rattle.bound_certificate.proofs.reading.is_written_as.Goals as goal

pub returns : goal.returns
returns c =
    let both = bytes_eq-Decides c.as_str.result.now c.as_str-2.result.now in (
      λ h.
          let same : c.in_ok-wanted.wanted ≡ string_bytes c.in_ok-found.found =
          sym c.as_str.ensures ∙ both.0 (sym c.eq.ensures ∙ h) ∙ c.as_str-2.ensures.value in
          let read_back : Some (view c.args.value.now) ≡ Some (certificate_data c.args.cert.now) =
          sym (c.in_ok-found.ensures.reads_back c.requires) ∙ ap read (sym same) ∙ c.in_ok-wanted.ensures.read_again in
          cc,
      λ h.
          let plain : has_float (view c.args.value.now) ≡ false = ap has_float h ∙ exact c.args.cert.now in
          let same : string_bytes c.in_ok-found.found ≡ c.in_ok-wanted.wanted =
          c.in_ok-found.ensures.text plain ∙ ap compact_text h ∙ sym c.in_ok-wanted.ensures.value in
          c.eq.ensures
          ∙ both.1 (c.as_str.ensures ∙ sym same ∙ sym c.as_str-2.ensures.value),
    )
