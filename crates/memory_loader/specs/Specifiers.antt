-- Texts as specifiers (WHATWG URL Standard).
use Rattle.std.specs.Prelude.{ℕ, List, ◌++◌, codes, None, Result, Ok, Err}
use Rattle.url.specs.Parts.{Parts}
use Rattle.url.specs.Parser.{parse_url, Parsed}
use Rattle.memory_loader.specs.declared.invalid_specifier.InvalidSpecifier.{InvalidSpecifier}

-- the URL, and any refusal is that of the text
abbrev pub or_refused : List ℕ → Parsed Parts → Result Parts InvalidSpecifier
or_refused text (Ok url) = Ok url
or_refused text (Err _) = Err (record { text = text })

-- the specifier that a text is
abbrev pub specifier_of : List ℕ → Result Parts InvalidSpecifier
specifier_of text = or_refused text (parse_url None text)

-- the text of the refusal
abbrev pub invalid_specifier_text : InvalidSpecifier → List ℕ
invalid_specifier_text error = codes "Invalid specifier \"" ++ error.text ++ codes "\"."
