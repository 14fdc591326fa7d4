-- That what resources name is there.
--
--   all_named     what every resource names is one of these ids
--   all_members   its member
--   all_placed    its place
use Rattle.std.specs.Prelude.{ℕ, Bool, true, ◌&&◌, List, [], ◌∷◌}
use Rattle.figures.specs.declared.standing.Resource.{Resource}
use Rattle.figures.specs.Owners.{among}

abbrev pub all_named : (Resource → ℕ) → List ℕ → List Resource → Bool
all_named of ids [] = true
all_named of ids (r ∷ rs) = among ids (of r) && all_named of ids rs

abbrev pub all_members : List ℕ → List Resource → Bool
all_members ids rs = all_named (λ r. r.member) ids rs

abbrev pub all_placed : List ℕ → List Resource → Bool
all_placed ids rs = all_named (λ r. r.place) ids rs
