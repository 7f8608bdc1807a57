-- What the definitions of a program that asks the layer take from here, from one place.
pub use Rattle.otel_base.specs.declared.context.Context.{Context}
pub use Rattle.otel_layer.specs.Asking.{AsksParent}
pub use Rattle.otel_layer.specs.Parts.{PartCall}
