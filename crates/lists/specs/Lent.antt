-- What a list that is lent holds after a call that writes its first entries. At the call it holds `x.old`, and afterwards `x.new`.
use Rattle.std.specs.Prelude.{List, ◌++◌, ℕ, length, drop}

-- "on success entries beyond the result keep their contents": the result, and the old entries beyond it
unfoldable pub overwritten : List ℕ → List ℕ → List ℕ
overwritten new old = new ++ drop (length new) old
