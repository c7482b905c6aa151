-- What holds of a walk holds in one way, so a walk can carry it.
use Rattle.std.specs.Prelude.{Option, Some, None}
use Rattle.std.proofs.Props.{props}
use Rattle.speck.specs.declared.Part.{Part}
use Rattle.speck.specs.declared.Part.TheVariants.{Block, Rest}
use Rattle.walk.specs.declared.asking.Asking.{Asking}
use Rattle.walk.specs.declared.asking.Asking.TheVariants as asking
use Rattle.walk.specs.declared.lists.Lists.{Lists}
use Rattle.walk.specs.Parts.{Within}
use Rattle.walk.specs.Layout.{Good}

within_prop : (p : Part) → IsProp (Within p)
within_prop (Block s r c) = Prim.hlevel props
within_prop (Rest d x) = Prim.hlevel props

pub Good-prop : (a : Option Asking) (l : Lists) → IsProp (Good a l)
Good-prop (Some (asking.Part p)) l = Prim.hlevel (within_prop, props)
Good-prop (Some (asking.Quarter p k)) l = Prim.hlevel (within_prop, props)
Good-prop (Some (asking.Sign c)) l = Prim.hlevel (within_prop, props)
Good-prop (Some asking.Refinement) l = Prim.hlevel (within_prop, props)
Good-prop None l = Prim.hlevel props
