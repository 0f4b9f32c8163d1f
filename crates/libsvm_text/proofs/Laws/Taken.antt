-- What the code makes of `s || t`: t where s doesn't settle it, and s itself where it does. Assumes nothing.
use mathlib.Core.Path.{◌≡◌, sym, ◌∙◌, ap}
use mathlib.Core.Bool.{Bool, true, false, ◌||◌}

module _ (s t : Bool) {made : Bool} where
  pub or_taken : s ≡ true → made ≡ s → made ≡ s || t
  or_taken h e = e ∙ h ∙ sym (ap (λ s. s || t) h)

  pub or_left : s ≡ false → made ≡ t → made ≡ s || t
  or_left h e = e ∙ sym (ap (λ s. s || t) h)
