-- What the code of a tool makes of single parts of a task.
pub mod Origins
pub mod Parts
