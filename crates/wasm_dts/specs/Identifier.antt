-- Identifiers of ECMAScript.
use Rattle.std.specs.Prelude.{ℕ, ◌==◌, ◌||◌, ◌&&◌, not, Bool, false, List, [], ◌∷◌, codes, bytes_eq}
use Rattle.std.specs.List.{list_all, list_any}
use Rattle.std.specs.Str.{chars}
use Rattle.unicode_ident.specs.Ident.{is_xid_start, is_xid_continue}

-- what an identifier may begin with
abbrev pub starts_identifier : ℕ → Bool
starts_identifier ch = is_xid_start ch || (ch == 0x24) || (ch == 0x5F)

-- what it may go on with, the two joiners among them
abbrev pub continues_identifier : ℕ → Bool
continues_identifier ch = is_xid_continue ch || (ch == 0x24) || (ch == 0x200C) || (ch == 0x200D)

abbrev pub is_identifier_name : List ℕ → Bool
is_identifier_name [] = false
is_identifier_name (ch ∷ chs) = starts_identifier ch && list_all continues_identifier chs

-- the words that bind nothing in a module
abbrev pub reserved_words : List (List ℕ)
reserved_words =
    codes "arguments" ∷ codes "await" ∷ codes "break" ∷ codes "case" ∷ codes "catch" ∷ codes "class" ∷ codes "const" ∷ codes "continue"
    ∷ codes "debugger" ∷ codes "default" ∷ codes "delete" ∷ codes "do" ∷ codes "else" ∷ codes "enum" ∷ codes "eval" ∷ codes "export"
    ∷ codes "extends" ∷ codes "false" ∷ codes "finally" ∷ codes "for" ∷ codes "function" ∷ codes "if" ∷ codes "implements" ∷ codes "import"
    ∷ codes "in" ∷ codes "instanceof" ∷ codes "interface" ∷ codes "let" ∷ codes "new" ∷ codes "null" ∷ codes "package" ∷ codes "private"
    ∷ codes "protected" ∷ codes "public" ∷ codes "return" ∷ codes "static" ∷ codes "super" ∷ codes "switch" ∷ codes "this" ∷ codes "throw"
    ∷ codes "true" ∷ codes "try" ∷ codes "typeof" ∷ codes "var" ∷ codes "void" ∷ codes "while" ∷ codes "with" ∷ codes "yield" ∷ []

unfoldable pub is_reserved : List ℕ → Bool
is_reserved text = list_any (λ word. bytes_eq word text) reserved_words

-- a text that may be declared and exported under itself
abbrev pub is_identifier : List ℕ → Bool
is_identifier text = is_identifier_name (chars text) && not (is_reserved text)
