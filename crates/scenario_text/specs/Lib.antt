pub use Rattle.text_words.specs.Words
pub use Rattle.text_words.specs.Solid
pub use Rattle.command_reader.specs.Forms
pub use Rattle.command_reader.specs.Scenario
pub use Rattle.line_reader.specs.Slots
pub use Rattle.line_reader.specs.Lines
pub use Rattle.line_reader.specs.Typed
pub mod Reading
