mod Holding
mod Deciding
mod Idling
mod Plainly
mod Row
mod Setting
mod Beginning
