-- What a draft keeps of a text.
use Rattle.std.specs.Prelude.{ℕ, List, take}

-- the first 128 bytes
unfoldable pub kept : List ℕ → List ℕ
kept text = take 128 text
