mod Waits
