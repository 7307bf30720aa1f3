-- What the reader's functions return, with each borrowed text as its bytes.
use Rattle.std.specs.Prelude.{ℕ, List, Option, Some, None}
use Rattle.std.specs.Borrow.{Bor}
use Rattle.semver_npm.specs.Reader.{Follow, Simples, further, another, ended}
use Rattle.semver_npm.specs.declared.reader.Follow.{Follow as Follows}
use Rattle.semver_npm.specs.declared.reader.Follow.TheVariants as follows
use Rattle.semver_npm.specs.declared.simple.Operator.{Operator}
use Rattle.semver_npm.specs.declared.simple.Partial.{Partial}
use Rattle.semver_npm.specs.declared.simple.Simple.{Simple}

abbrev pub operator_view : Operator × Bor (List ℕ) → Operator × List ℕ
operator_view p = (p.0, p.1.now)

abbrev pub as_follow : Follows → Follow
as_follow follows.End = ended
as_follow (follows.Simple rest) = further rest.now
as_follow (follows.Range rest) = another rest.now

abbrev pub follow_view : Option Follows → Option Follow
follow_view None = None
follow_view (Some f) = Some (as_follow f)

abbrev pub item_view : Option (Simple × Follows) → Option (Simple × Follow)
item_view None = None
item_view (Some p) = Some (p.0, as_follow p.1)

abbrev pub ends_view : Option (Partial × Partial × Follows) → Option (Partial × Partial × Follow)
ends_view None = None
ends_view (Some p) = Some (p.0, p.1, as_follow p.2)

abbrev pub text_view : Option (Bor (List ℕ)) → Option (List ℕ)
text_view None = None
text_view (Some t) = Some t.now

abbrev pub simples_view : Option (List Simple × Option (Bor (List ℕ))) → Option Simples
simples_view None = None
simples_view (Some p) = Some (p.0, text_view p.1)
