-- The forms of lines.
pub mod Forms
pub mod SettingsForm
pub mod RequestForm
pub mod ExtensionForm
pub mod FieldForm
pub mod AttributeForm
