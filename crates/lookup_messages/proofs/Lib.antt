pub mod FirstSeen
pub mod Layouts
pub mod NetEntries
pub mod OwnWindow
pub mod SentMessageLaws
