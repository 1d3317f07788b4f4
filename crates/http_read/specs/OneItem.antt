-- That the bytes decide what stands at their front.
use Rattle.std.specs.Prelude.{◌≡◌, List, ℕ}
use Rattle.http_read.specs.Item.{Item}
use Rattle.http_read.specs.declared.request.HttpRequest.{HttpRequest}
use Rattle.http_read.specs.declared.request.Next.{Next}
use Rattle.http_read.specs.declared.request.Next.TheVariants as next

-- it is not so that none stands there
abbrev pub HasSomeItem : Type 0
HasSomeItem = (bytes : List ℕ) → ((x : Next) (r : List ℕ) → Item bytes x r → ⊥) → ⊥

-- no two items stand at the front of the same bytes
abbrev pub HasOneItem : Type 0
HasOneItem = (bytes : List ℕ) (x y : Next) (r s : List ℕ) → Item bytes x r → Item bytes y s → x ≡ y

-- and behind a request there are no two rests
abbrev pub HasOneRest : Type 0
HasOneRest = (bytes : List ℕ) (x y : HttpRequest) (r s : List ℕ) → Item bytes (next.Request x) r → Item bytes (next.Request y) s → r ≡ s
