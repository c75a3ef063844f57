-- The number, the layer and the layer's word of every cause of refusal.
use Rattle.std.specs.Prelude.{List, ℕ, codes}
use Rattle.refusal.specs.declared.Cause.{Cause}
use Rattle.refusal.specs.declared.Cause.TheVariants.{NotYet, Grammar, Name, Depth, Capacity, Operand, Sort, Range, ConstantRange, SourcesFull, TargetFull, Level, ModelLength, RegisterRange, AndUnknown, Requirement, Line}
use Rattle.refusal.specs.declared.Refusal.{Refusal}
use Rattle.refusal.specs.declared.Layer as layer
use Rattle.refusal.specs.declared.Layer.{Layer}

abbrev pub number_of : Cause → ℕ
number_of NotYet = 0
number_of Grammar = 1
number_of Name = 2
number_of Depth = 3
number_of Capacity = 4
number_of Operand = 5
number_of Sort = 6
number_of Range = 7
number_of ConstantRange = 7
number_of SourcesFull = 8
number_of TargetFull = 9
number_of Level = 10
number_of ModelLength = 11
number_of RegisterRange = 12
number_of AndUnknown = 13
number_of Requirement = 14
number_of Line = 15

abbrev pub layer_of : Cause → Layer
layer_of NotYet = layer.TheVariants.Workbook
layer_of Grammar = layer.TheVariants.Text
layer_of Name = layer.TheVariants.Text
layer_of Depth = layer.TheVariants.Text
layer_of Capacity = layer.TheVariants.Text
layer_of Operand = layer.TheVariants.Order
layer_of Sort = layer.TheVariants.Order
layer_of Range = layer.TheVariants.Order
layer_of ConstantRange = layer.TheVariants.Text
layer_of SourcesFull = layer.TheVariants.Workbook
layer_of TargetFull = layer.TheVariants.Workbook
layer_of Level = layer.TheVariants.Workbook
layer_of ModelLength = layer.TheVariants.Model
layer_of RegisterRange = layer.TheVariants.Model
layer_of AndUnknown = layer.TheVariants.Model
layer_of Requirement = layer.TheVariants.Model
layer_of Line = layer.TheVariants.Line

abbrev pub word_of : Layer → List ℕ
word_of layer.TheVariants.Text = codes "text"
word_of layer.TheVariants.Order = codes "order"
word_of layer.TheVariants.Workbook = codes "workbook"
word_of layer.TheVariants.Model = codes "model"
word_of layer.TheVariants.Line = codes "line"

-- the refusal for a cause that tells a number
abbrev pub told : Cause → ℕ → Refusal
told cause at = record { cause = cause; at = at }
