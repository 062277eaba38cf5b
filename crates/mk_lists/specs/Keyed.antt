-- A list with an index: the key of each member, in their order, so that a member is found at the place of its key.
use Rattle.std.specs.Prelude.{◌≡◌, List, map}
use Rattle.mk_lists.specs.Among.{AllDistinct}

-- the keys are those of the members, and no key stands twice
pub record IsIndex {K X : Type 0} (key : X → K) (members : List X) (keys : List K) : Type 0 where
  pub keys_are : keys ≡ map key members
  pub distinct : AllDistinct keys
