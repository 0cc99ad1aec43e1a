pub mod Left
pub mod Watches
pub mod Mails
