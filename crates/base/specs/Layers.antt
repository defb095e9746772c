-- The names of the layers, as they are printed.
use Rattle.std.specs.Prelude.{List, ℕ, codes}
use Rattle.base.specs.declared.fault.Layer.{Layer}
use Rattle.base.specs.declared.fault.Layer.TheVariants as layers

abbrev pub layer_name : Layer → List ℕ
layer_name layers.Table = codes "table"
layer_name layers.Shed = codes "shed"
layer_name layers.Wire = codes "wire"
layer_name layers.Packet = codes "packet"
layer_name layers.Unit = codes "unit"
