-- Places of a text that ends with a newline. Assumes nothing.
use Rattle.std.specs.Prelude.{◌≡◌, Bool, true, ◌||◌, List, ℕ, ◌-◌, ◌<◌, eqb, get_or, length}

-- whether a text has no bytes, or a newline for the last one
abbrev pub text_ends : List ℕ → Bool
text_ends text = eqb (length text) 0 || eqb (get_or text (length text - 1) 0) 10

-- a place of a text that ends with a newline: where its byte is none, there is another place after it
pub record Within (text : List ℕ) (at : ℕ) : Type 0 where
  pub ends : text_ends text ≡ true
  pub place : at < length text
