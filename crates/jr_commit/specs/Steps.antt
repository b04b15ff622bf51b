-- What a step writes or removes.
use Rattle.std.specs.Prelude.{List, ℕ, map, Option, Some, None}
use Rattle.jr_commit.specs.SidesAt.{SideAt}
use Rattle.jr_commit.specs.declared.actions.Step.{Step}
use Rattle.jr_commit.specs.declared.actions.Step.TheVariants.{Write, Remove}

abbrev pub path_of : Step → List ℕ
path_of (Write path bytes) = path
path_of (Remove path) = path

-- what stands at the path after the step
abbrev pub side_of : Step → Option (List ℕ)
side_of (Write path bytes) = Some bytes.items
side_of (Remove path) = None

-- what stands at the paths after the steps
abbrev pub sides_of : List Step → List SideAt
sides_of steps = map (λ s. (path_of s, side_of s)) steps
