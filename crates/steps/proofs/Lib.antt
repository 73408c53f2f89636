mod Fields
mod Sharing
mod Preparing
mod Looking
mod Trying
mod Reading
mod Deciding
